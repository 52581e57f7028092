-- A byte more is passed over, or the content is cut short.
use Rattle.std.proofs.Common.{◌≡◌, arith}
use Rattle.bpg_sei.proofs.StepLaws.{skip-none, skip-end, skip-on}
use Rattle.bpg_sei.proofs.message.skip.Goals as goal

pub loop-init : goal.loop-init
loop-init c = skip-none _ _

pub returns-in_err-at : goal.returns-in_err-at
returns-in_err-at c = rw c.from_residual.ensures (omega (arith, skip-end c.loop.invariant c.in_err-at.ensures))

pub loop-preserved : goal.loop-preserved
loop-preserved c = skip-on c.loop.invariant c.in_ok-at.ensures

pub returns : goal.returns
returns c = let e : c.loop.counter ≡ c.args.count = omega arith in rw (← e) c.loop.invariant
