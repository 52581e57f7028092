-- The numbers of a pixel fit, and are the rules'.
use Rattle.std.proofs.Common.{◌≤◌, ◌∙◌, get_or, arith}
use Rattle.bpg_sample_rules.specs.Rules.{green_of, blue_of, red_of}
use Rattle.bpg_sample_rules.proofs.Depths.{max-high}
use Rattle.bpg_sample_rules.proofs.Planes.{at-most-largest}
use Rattle.bpg_sample_rules.proofs.Filling.{filled_more, zip_filled, zip3_filled}
use Rattle.bpg_ycgco.proofs.Differences.{green-is, blue-is, red-is}
use Rattle.bpg_ycgco.proofs.planes.convert_planes.Goals as goal

pub half_range-half-requires : goal.half_range-half-requires
half_range-half-requires c = omega (arith, max-high c.args.depth c.requires.high)

pub t_plus_half-t-requires : goal.t_plus_half-t-requires
t_plus_half-t-requires c =
    let a = c.args in
    let m = max-high a.depth c.requires.high in
    let y = at-most-largest a.y.now c.loop-i.i in
    let g = at-most-largest a.cg.now c.loop-i.i in
    (omega arith, omega arith, omega arith)

pub red_at-requires : goal.red_at-requires
red_at-requires c =
    let a = c.args in
    let m = max-high a.depth c.requires.high in
    let y = at-most-largest a.y.now c.loop-i.i in
    let o = at-most-largest a.co.now c.loop-i.i in
    (omega arith, omega arith, omega arith)

pub green_at-requires : goal.green_at-requires
green_at-requires c =
    let a = c.args in
    let m = max-high a.depth c.requires.high in
    let y = at-most-largest a.y.now c.loop-i.i in
    let g = at-most-largest a.cg.now c.loop-i.i in
    (omega arith, omega arith)

pub loop-i-preserved : goal.loop-i-preserved
loop-i-preserved c =
    let a = c.args in
    let l = c.loop-i in
    let g = c.requires in
    let h = c.half_range-half.ensures in
    let t = c.t_plus_half-t.ensures in
    let cg : get_or a.cg.now l.i 0 ≤ a.m = omega (arith, at-most-largest a.cg.now l.i) in
    record {
      reds =
          filled_more (λ k. red_of a.depth (get_or a.y.now k 0) (get_or a.cg.now k 0) (get_or a.co.now k 0)) l.red l.i (omega arith) l.invariant.reds
          (c.red_at.ensures ∙ red-is _ _ _ _ _ _ _ g.low g.m-is h cg t);
      greens =
          filled_more (λ k. green_of a.depth (get_or a.y.now k 0) (get_or a.cg.now k 0)) l.green l.i (omega arith) l.invariant.greens
          (c.green_at.ensures ∙ green-is _ _ _ 0 _ _ _ g.low g.m-is h cg t);
      blues =
          filled_more (λ k. blue_of a.depth (get_or a.y.now k 0) (get_or a.cg.now k 0) (get_or a.co.now k 0)) l.blue l.i (omega arith) l.invariant.blues
          (c.blue_at.ensures ∙ blue-is _ _ _ _ _ _ _ g.low g.m-is h cg t);
    }

pub returns-clause-red_after : goal.returns-clause-red_after
returns-clause-red_after c =
    zip3_filled (red_of c.args.depth) c.args.y.now c.args.cg.now c.args.co.now c.requires.cg-length c.requires.co-length (omega arith)
    λ i h. c.loop-i.invariant.reds i (omega arith)

pub returns-clause-green_after : goal.returns-clause-green_after
returns-clause-green_after c =
    zip_filled (green_of c.args.depth) c.args.y.now c.args.cg.now c.requires.cg-length (omega arith) λ i h. c.loop-i.invariant.greens i (omega arith)

pub returns-clause-blue_after : goal.returns-clause-blue_after
returns-clause-blue_after c =
    zip3_filled (blue_of c.args.depth) c.args.y.now c.args.cg.now c.args.co.now c.requires.cg-length c.requires.co-length (omega arith)
    λ i h. c.loop-i.invariant.blues i (omega arith)
