use Rattle.std.proofs.Common.{List, ℕ, [], ◌++◌, length, ap, arith}
use Rattle.bpg_codec.specs.Bits.{bytes_for}
use Rattle.bpg_codec.proofs.Select.{select-true}
use Rattle.bpg_ue7.specs.Ue7.{ue7_bytes}
use Rattle.bpg_write_bits.specs.BitBuffer.{buffer_bytes}
use Rattle.bpg_writer.proofs.PutLaws.{put-absent, put-present, put_then}
use Rattle.bpg_writer.proofs.emit.header.Goals as goal

pub returns-then-not-present : goal.returns-then-not-present
returns-then-not-present c =
    let p = put-absent c.args.out.now c.args.at.0 _ _ c.if-not-present.true c.requires.bits_bound in
    record { out_after = p.0; result_value = p.1 }

pub returns : goal.returns
returns c =
    let n = bytes_for c.args.bits.len.0 in
    let l = ue7_bytes n ++ buffer_bytes c.args.bits in
    let is = ap length (select-true {X = List ℕ} {b = c.args.present} l [] c.if-not-present.false) in
    let p = put-present c.args.out.now c.args.at.0 l c.if-not-present.false
    (put_then c.args.out.now c.args.at.0 (ue7_bytes n) (buffer_bytes c.args.bits) (omega (arith, c.requires.bits_bound, is))
    (c.write-p.ensures.out_after, c.write-p.ensures.result_value) λ _. (c.write.ensures.out_after, c.write.ensures.result_value)) in
    record { out_after = p.0; result_value = p.1 }
