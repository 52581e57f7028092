-- The last byte is 80, and none stands behind it.
use borrow.Author.Tests.{ne_eqb}
use Rattle.bpg_sei.proofs.MessageLaws.{ends-none, ends-other, ends-by}
use Rattle.bpg_sei.proofs.messages.ends_here.Goals as goal

pub returns-in_default : goal.returns-in_default
returns-in_default c = ends-none _ c.in_default.ensures

pub returns-then-step : goal.returns-then-step
returns-then-step c = ends-by _ _ _ _ _ c.next-then-step.ensures c.in-Some.ensures.same c.if-step.true _ c.is_none.ensures

pub returns-else-step : goal.returns-else-step
returns-else-step c = rw (ne_eqb _ 128 c.if-step.false) (ends-other _ _ _ c.in-Some.ensures.same c.if-step.false)
