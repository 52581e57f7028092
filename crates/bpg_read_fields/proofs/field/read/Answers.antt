-- `field::read` meets its contract.
use Rattle.std.proofs.Common.{refl, sym, ap, ◌∙◌}
use borrow.Author.Tests.{eq-eqb, ne_eqb}
use Rattle.bpg_bits.specs.BitNumbers.{region_bits}
use Rattle.bpg_bits.specs.Answers.{bit_answer}
use Rattle.bpg_read_fields.proofs.TableLaws.{field-code, field-bits}
use Rattle.bpg_read_fields.proofs.field.read.Goals as goal

pub returns-then-width-eq0 : goal.returns-then-width-eq0
returns-then-width-eq0 c =
    c.code.ensures ∙ ap bit_answer (sym (field-code (region_bits c.args.region.now) c.args.at.0 c.args.width refl (eq-eqb _ _ c.if-width-eq0.true)))

pub returns : goal.returns
returns c =
    c.fixed.ensures ∙ ap bit_answer (sym (field-bits (region_bits c.args.region.now) c.args.at.0 c.args.width refl (ne_eqb _ _ c.if-width-eq0.false)))
