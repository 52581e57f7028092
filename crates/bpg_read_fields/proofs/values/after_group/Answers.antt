-- `values::after_group` meets its contract.
use Rattle.std.proofs.Common.{sym}
use Rattle.bpg_codec.proofs.Select.{select-true, select-false}
use borrow.Author.Tests.{eq-eqb, ne_eqb}
use Rattle.bpg_read_fields.proofs.values.after_group.Goals as goal

pub returns-then-gate-eq6 : goal.returns-then-gate-eq6
returns-then-gate-eq6 c = sym (select-true _ _ (eq-eqb _ _ c.if-gate-eq6.true))

pub returns-else-gate-eq6 : goal.returns-else-gate-eq6
returns-else-gate-eq6 c = sym (select-false _ _ (ne_eqb _ _ c.if-gate-eq6.false))
