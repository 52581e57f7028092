-- The largest of the samples so far.
use Rattle.std.proofs.Common.{◌≡◌, take}
use Rattle.bpg_sample_rules.specs.Planes.{largest}
use Rattle.bpg_sample_check.proofs.judgement.largest.Given as goal

abbrev pub invariant-loop-sample : goal.invariant-loop-sample
invariant-loop-sample l = l.top ≡ largest (take l.sample-index l.plane)
