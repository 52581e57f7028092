use Rattle.std.proofs.Common.{List, ℕ, [], ◌++◌, length, length-append, ap, arith}
use Rattle.bpg_codec.proofs.Select.{select-true}
use Rattle.bpg_ue7.specs.Ue7.{ue7_bytes}
use Rattle.bpg_write_plan.specs.FileParts.{entries_part}
use Rattle.bpg_writer.proofs.PutLaws.{put-end, put-absent, put-present, put_then, put_same}
use Rattle.bpg_writer.proofs.emit.block.Goals as goal

pub returns-then-not-record : goal.returns-then-not-record
returns-then-not-record c =
    let p = put-absent c.args.out.now c.args.at.0 _ _ c.if-not-record.true c.requires.source_bound in
    record { out_after = p.0; result_value = p.1 }

pub entries-requires-clause-source_bound : goal.entries-requires-clause-source_bound
entries-requires-clause-source_bound c =
    let part = entries_part c.args.«record».now c.args.source.now in
    let size = ue7_bytes (length part) in
    let put = put_same c.args.out.now c.args.at.0 (ap ue7_bytes c.requires.size_value) (c.write-p.ensures.out_after, c.write-p.ensures.result_value) in
    let is = ap length (select-true {X = List ℕ} {b = c.args.«record».now.extension_present_flag} (size ++ part) [] c.if-not-record.false) in
    let e = put-end c.args.out.now c.args.at.0 size (omega (arith, c.requires.source_bound, is, length-append size part)) put in
    omega (arith, e.0, e.1, c.requires.source_bound, is, length-append size part)

pub returns : goal.returns
returns c =
    let part = entries_part c.args.«record».now c.args.source.now in
    let size = ue7_bytes (length part) in
    let put = put_same c.args.out.now c.args.at.0 (ap ue7_bytes c.requires.size_value) (c.write-p.ensures.out_after, c.write-p.ensures.result_value) in
    let is = ap length (select-true {X = List ℕ} {b = c.args.«record».now.extension_present_flag} (size ++ part) [] c.if-not-record.false) in
    let p = put-present c.args.out.now c.args.at.0 _ c.if-not-record.false
    (put_then c.args.out.now c.args.at.0 size part (omega (arith, c.requires.source_bound, is)) put λ _. (c.entries.ensures.out_after, c.entries.ensures.result_value)) in
    record { out_after = p.0; result_value = p.1 }
