-- A byte more is summed, or the content is cut short.
use Rattle.bpg_sei.proofs.StepLaws.{sum-none, sum-on, sum-found}
use Rattle.bpg_sei.proofs.sum.read.Goals as goal

pub returns-in_err-step : goal.returns-in_err-step
returns-in_err-step c = rw c.from_residual.ensures (sum-none c.loop-step.invariant c.in_err-step.ensures)

pub returns-then-step : goal.returns-then-step
returns-then-step c =
    sum-found c.loop-step.invariant c.in_ok-step.ensures _ (rw c.from.ensures at c.saturating_add-value.ensures) c.if-step.true

pub loop-step-preserved : goal.loop-step-preserved
loop-step-preserved c =
    sum-on c.loop-step.invariant c.in_ok-step.ensures _ (rw c.from.ensures at c.saturating_add-value.ensures) c.if-step.false
