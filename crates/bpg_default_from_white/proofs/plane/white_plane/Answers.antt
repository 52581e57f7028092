-- Each sample is the rule's at the plane's and W's.
use Rattle.std.proofs.Common.{ℕ, refl, get_or, arith}
use Rattle.bpg_sample_rules.specs.Rules.{max_sample, times_white}
use Rattle.bpg_sample_rules.proofs.Planes.{at-most-largest}
use Rattle.bpg_sample_rules.proofs.Filling.{filled_more, zip_filled}
use Rattle.bpg_default_from_white.proofs.plane.white_plane.Goals as goal

pub times_white-requires : goal.times_white-requires
times_white-requires c =
    let r = at-most-largest c.args.plane.now c.loop-i.i in
    let w = at-most-largest c.args.white.now c.loop-i.i in
    (omega arith, omega arith, omega arith, omega arith, rw (c.from-half.ensures, c.requires.le_depth.2) refl)

pub loop-i-preserved : goal.loop-i-preserved
loop-i-preserved c =
    filled_more (λ (k : ℕ). times_white (max_sample c.args.depth) (get_or c.args.plane.now k 0) (get_or c.args.white.now k 0)) c.loop-i.out c.loop-i.i (omega arith)
    c.loop-i.invariant c.times_white.ensures

pub returns : goal.returns
returns c =
    zip_filled (times_white (max_sample c.args.depth)) c.args.plane.now c.args.white.now (omega arith) (omega arith) λ i h. c.loop-i.invariant i (omega arith)
