use Rattle.std.proofs.Common.{◌≡◌, ◌+◌, ◌-◌, length, ap, arith}
use Rattle.bpg_ue7.specs.Ue7.{ue7_bytes}
use Rattle.bpg_writer.proofs.PutLaws.{put_same, put_then}
use Rattle.bpg_writer.proofs.PartLaws.{entry-bytes}
use Rattle.bpg_writer.proofs.emit.entry.Goals as goal

pub returns : goal.returns
returns c =
    let e = c.args.entry.now in
    let r = e.payload in
    let n : r.start + r.length - r.start ≡ r.length = omega arith in
    let whole = entry-bytes c.args.source.now e c.requires.length_bound (r.start + r.length - r.start) n in
    let p = put_same c.args.out.now c.args.at.0 whole
    (put_then c.args.out.now c.args.at.0 (ue7_bytes e.tag) _ (omega (arith, c.requires.bound, ap length whole)) (c.write-p.ensures.out_after, c.write-p.ensures.result_value) λ f.
    put_then c.write-p.new.out _ (ue7_bytes r.length) _ f (c.write-q.ensures.out_after, c.write-q.ensures.result_value) λ _. (c.write.ensures.out_after, c.write.ensures.result_value)) in
    record { out_after = p.0; result_value = p.1 }
