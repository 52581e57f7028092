use Rattle.std.proofs.Common.{length-drop, sym, ◌∙◌, arith}
use Rattle.bpg_segment_reader.proofs.SegmentLaws.{answered, absent-none, absent-short, absent-other, present}
use Rattle.bpg_segment_reader.proofs.segment.part_at.Goals as goal

pub returns-in_default : goal.returns-in_default
returns-in_default c = rw c.absent.ensures (absent-none c.args.run.now c.args.at c.args.marker c.args.prefix.now c.requires.at_bound c.in_default.ensures)

pub returns-then-field-size : goal.returns-then-field-size
returns-then-field-size c =
    rw c.absent-then-field-size.ensures
    (absent-short c.args.run.now c.args.at c.args.marker c.args.prefix.now c.requires.at_bound _ c.in-Some.ensures c.if-field-size.true)

pub slice_bounds-eq-end : goal.slice_bounds-eq-end
slice_bounds-eq-end c =
    let f = answered c.args.run.now c.args.at c.args.marker c.in-Some.field c.in-Some.ensures in
    omega (arith, f.1, length-drop c.args.at c.args.run.now, c.if-field-size.false)

pub returns-then-not-same : goal.returns-then-not-same
returns-then-not-same c =
    rw c.absent-then-not-same.ensures
    (absent-other c.args.run.now c.args.at c.args.marker c.args.prefix.now c.requires.at_bound _ c.in-Some.ensures c.if-field-size.false (sym c.eq-same.ensures ∙ c.if-not-same.true))

pub overflow_add-result-2 : goal.overflow_add-result-2
overflow_add-result-2 c =
    let f = answered c.args.run.now c.args.at c.args.marker c.in-Some.field c.in-Some.ensures in
    omega (arith, f.1, length-drop c.args.at c.args.run.now)

pub returns : goal.returns
returns c =
    present c.args.run.now c.args.at c.args.marker c.args.prefix.now c.requires.at_bound _ c.in-Some.ensures c.if-field-size.false (sym c.eq-same.ensures ∙ c.if-not-same.false)
