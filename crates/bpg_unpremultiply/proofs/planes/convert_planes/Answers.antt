-- What is asked of a pixel is given, and each sample is the rule's.
use Rattle.std.proofs.Common.{ℕ, sym, ap, ◌∙◌, get_or, arith}
use Rattle.bpg_sample_rules.specs.Rules.{unpremultiplied}
use Rattle.bpg_sample_rules.proofs.Planes.{at-most-largest}
use Rattle.bpg_sample_rules.proofs.Filling.{filled_more, zip_filled}
use Rattle.bpg_unpremultiply.proofs.Quotients.{transparent}
use Rattle.bpg_unpremultiply.proofs.planes.convert_planes.Goals as goal

pub unpremultiply_sample-requires : goal.unpremultiply_sample-requires
unpremultiply_sample-requires c =
    let h = at-most-largest c.args.a.now c.loop-i.i in
    (c.requires.m-high, omega arith, c.reciprocal-v.ensures)

pub unpremultiply_sample-requires-in-loop-i : goal.unpremultiply_sample-requires-in-loop-i
unpremultiply_sample-requires-in-loop-i c =
    let h = at-most-largest c.args.a.now c.loop-i.i in
    (c.requires.m-high, omega arith, c.reciprocal-v.ensures)

pub unpremultiply_sample-requires-in-loop-i-2 : goal.unpremultiply_sample-requires-in-loop-i-2
unpremultiply_sample-requires-in-loop-i-2 c =
    let h = at-most-largest c.args.a.now c.loop-i.i in
    (c.requires.m-high, omega arith, c.reciprocal-v.ensures)

pub loop-i-preserved-then-alpha-eq0 : goal.loop-i-preserved-then-alpha-eq0
loop-i-preserved-then-alpha-eq0 c =
    let a = c.args in
    let l = c.loop-i in
    let none = λ (x : ℕ). sym (ap (unpremultiplied a.m x) c.if-alpha-eq0.true ∙ transparent a.m x) in
    record {
      reds = filled_more (λ k. unpremultiplied a.m (get_or a.r.now k 0) (get_or a.a.now k 0)) l.red l.i (omega arith) l.invariant.reds (none _);
      greens = filled_more (λ k. unpremultiplied a.m (get_or a.g.now k 0) (get_or a.a.now k 0)) l.green l.i (omega arith) l.invariant.greens (none _);
      blues = filled_more (λ k. unpremultiplied a.m (get_or a.b.now k 0) (get_or a.a.now k 0)) l.blue l.i (omega arith) l.invariant.blues (none _);
    }

pub loop-i-preserved : goal.loop-i-preserved
loop-i-preserved c =
    let a = c.args in
    let l = c.loop-i in
    record {
      reds =
          filled_more (λ k. unpremultiplied a.m (get_or a.r.now k 0) (get_or a.a.now k 0)) l.red l.i (omega arith) l.invariant.reds
          c.unpremultiply_sample.ensures;
      greens =
          filled_more (λ k. unpremultiplied a.m (get_or a.g.now k 0) (get_or a.a.now k 0)) l.green l.i (omega arith) l.invariant.greens
          c.unpremultiply_sample-in-loop-i.ensures;
      blues =
          filled_more (λ k. unpremultiplied a.m (get_or a.b.now k 0) (get_or a.a.now k 0)) l.blue l.i (omega arith) l.invariant.blues
          c.unpremultiply_sample-in-loop-i-2.ensures;
    }

pub returns-clause-red_after : goal.returns-clause-red_after
returns-clause-red_after c =
    zip_filled (unpremultiplied c.args.m) c.args.r.now c.args.a.now (omega arith) (omega arith) λ i h. c.loop-i.invariant.reds i (omega arith)

pub returns-clause-green_after : goal.returns-clause-green_after
returns-clause-green_after c =
    zip_filled (unpremultiplied c.args.m) c.args.g.now c.args.a.now (omega arith) (omega arith) λ i h. c.loop-i.invariant.greens i (omega arith)

pub returns-clause-blue_after : goal.returns-clause-blue_after
returns-clause-blue_after c =
    zip_filled (unpremultiplied c.args.m) c.args.b.now c.args.a.now (omega arith) (omega arith) λ i h. c.loop-i.invariant.blues i (omega arith)
