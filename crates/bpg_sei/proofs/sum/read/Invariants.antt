-- Summing on from `at` gives what summing from the start does.
use Rattle.std.proofs.Common.{◌-◌, length}
use Rattle.bpg_sei.proofs.StepLaws.{Summing}
use Rattle.bpg_sei.proofs.sum.read.Given as goal

abbrev pub invariant-loop-step : goal.invariant-loop-step
invariant-loop-step l = Summing l.unit l.fn.cursor l.at l.value

abbrev pub decreases-loop-step : goal.decreases-loop-step
decreases-loop-step l = length l.unit - l.at.at.0
