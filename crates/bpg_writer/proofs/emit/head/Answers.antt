use Rattle.std.proofs.Common.{ℕ, [], ◌∷◌, ◌++◌, ap₂, arith}
use Rattle.bpg_ue7.specs.Ue7.{ue7_bytes}
use Rattle.bpg_format.specs.Syntax.{magic, byte4, byte5}
use Rattle.bpg_format.specs.Records.{record_flags}
use Rattle.bpg_writer.proofs.PutLaws.{put_same, put_then}
use Rattle.bpg_writer.proofs.emit.head.Goals as goal

pub returns : goal.returns
returns c =
    let r = c.args.«record».now in
    let six = ap₂ (λ (x y : ℕ). magic ++ (x ∷ y ∷ [])) c.byte4.ensures c.byte5.ensures in
    let width = ue7_bytes r.picture_width in
    let height = ue7_bytes r.picture_height in
    let size = ue7_bytes c.args.data_length in
    let p = put_then c.args.out.now 0 (magic ++ (byte4 (record_flags r) ∷ byte5 (record_flags r) ∷ [])) (width ++ (height ++ size)) (omega (arith, c.requires.data_length_bound))
    (put_same c.args.out.now 0 six (c.write-p.ensures.out_after, c.write-p.ensures.result_value)) λ f.
    put_then c.write-p.new.out _ width (height ++ size) f (c.write-q.ensures.out_after, c.write-q.ensures.result_value) λ f.
    put_then c.write-q.new.out _ height size f (c.write-r.ensures.out_after, c.write-r.ensures.result_value) λ _. (c.write.ensures.out_after, c.write.ensures.result_value) in
    record { out_after = p.0; result_value = p.1 }
