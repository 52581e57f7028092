-- The loop keeps the largest so far.
use Rattle.std.proofs.Common.{refl, arith}
use Rattle.bpg_sample_rules.specs.Planes.{largest}
use Rattle.bpg_sample_check.proofs.LargestLaws.{largest_more}
use Rattle.bpg_sample_check.proofs.judgement.largest.Goals as goal

pub loop-sample-init : goal.loop-sample-init
unfolding largest
loop-sample-init c = refl

pub loop-sample-preserved : goal.loop-sample-preserved
loop-sample-preserved c = omega (arith, largest_more c.args.plane.now c.loop-sample.sample-index c.loop-sample-test.true, c.max-top.ensures)
