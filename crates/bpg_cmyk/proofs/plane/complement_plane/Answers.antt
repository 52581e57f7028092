-- Each sample is M minus the plane's, and none is above M.
use Rattle.std.proofs.Common.{ℕ, refl, get_or, arith}
use Rattle.bpg_sample_rules.specs.Rules.{complement}
use Rattle.bpg_sample_rules.proofs.Planes.{at-most-largest}
use Rattle.bpg_sample_rules.proofs.Filling.{filled_more, map_filled}
use Rattle.bpg_cmyk.proofs.plane.complement_plane.Goals as goal

pub overflow_sub-sample : goal.overflow_sub-sample
overflow_sub-sample c = omega (arith, at-most-largest c.args.plane.now c.loop-i.i)

pub loop-i-preserved : goal.loop-i-preserved
unfolding complement
loop-i-preserved c =
    filled_more (λ (k : ℕ). complement c.args.m (get_or c.args.plane.now k 0)) c.loop-i.out c.loop-i.i (omega arith) c.loop-i.invariant refl

pub returns : goal.returns
returns c = map_filled (complement c.args.m) c.args.plane.now (omega arith) λ i h. c.loop-i.invariant i (omega arith)
