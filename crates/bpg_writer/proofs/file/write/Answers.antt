use Rattle.std.proofs.Common.{arith, ap, ◌∙◌}
use Rattle.bpg_codec.proofs.Tokens.{all-bytes}
use Rattle.bpg_format.specs.Zero.{refused_written}
use Rattle.bpg_format.proofs.Typed.{typed}
use Rattle.bpg_refusal.specs.Numbers.{reason_number}
use Rattle.bpg_refusal.specs.declared.Refusal.{Refusal}
use Rattle.bpg_writer.proofs.FileLaws.{refused, too_small, file-written}
use Rattle.bpg_writer.proofs.file.write.Goals as goal

-- with what the types say of the record and of the source
pub returns-in-Err : goal.returns-in-Err
returns-in-Err c =
    let a = c.args in
    let t = typed a.«record» c.well_formed.0 in
    let e = refused a.«record» a.source.now a.out.now t (all-bytes a.source.now (λ i. omega (arith, c.type_inv.source i))) _ c.in-Err.ensures c.refused.result
    (c.refused.ensures ∙ ap (λ (r : Refusal). refused_written (reason_number r.reason) r.offset.0) c.at.ensures) in
    record { value = e.value; out_after = e.out_after; variant = e.variant }

pub returns-then-room-size : goal.returns-then-room-size
returns-then-room-size c =
    let a = c.args in
    let t = typed a.«record» c.well_formed.0 in
    let e = too_small a.«record» a.source.now a.out.now t (all-bytes a.source.now (λ i. omega (arith, c.type_inv.source i))) c.in-Ok.plan c.in-Ok.ensures c.if-room-size.true c.refused-then-room-size.result
    (c.refused-then-room-size.ensures ∙ ap (λ (r : Refusal). refused_written (reason_number r.reason) r.offset.0) c.at-then-room-size.ensures) in
    record { value = e.value; out_after = e.out_after; variant = e.variant }

pub emit_file-requires-clause-source_in_bounds : goal.emit_file-requires-clause-source_in_bounds
emit_file-requires-clause-source_in_bounds c = omega (arith, c.if-room-size.false, c.in-Ok.ensures.total-is)

pub returns : goal.returns
returns c =
    let a = c.args in
    let t = typed a.«record» c.well_formed.0 in
    let e = file-written a.«record» a.source.now a.out.now t (all-bytes a.source.now (λ i. omega (arith, c.type_inv.source i))) c.in-Ok.plan c.in-Ok.ensures c.if-room-size.false
    c.emit_file.new.out c.emit_file.ensures c.of.result c.of.ensures in
    record { value = e.value; out_after = e.out_after; variant = e.variant }
