use Rattle.std.proofs.Common.{arith}
use Rattle.bpg_segment_reader.proofs.SegmentLaws.{short, not_first, not-second, too_small, too_large, whole}
use Rattle.bpg_segment_reader.proofs.segment.field_at.Goals as goal

pub returns-then-left-lt4 : goal.returns-then-left-lt4
returns-then-left-lt4 c = short c.args.run.now c.args.at c.args.marker c.if-left-lt4.true

pub returns-then-run-at : goal.returns-then-run-at
returns-then-run-at c = not_first c.args.run.now c.args.at c.args.marker c.if-run-at.true

pub returns-then-run-at-2 : goal.returns-then-run-at-2
returns-then-run-at-2 c = not-second c.args.run.now c.args.at c.args.marker c.if-run-at-2.true

pub returns-then-field-lt2 : goal.returns-then-field-lt2
returns-then-field-lt2 c = too_small c.args.run.now c.args.at c.args.marker _ c.number-field.ensures.0 c.if-field-lt2.true

pub returns-then-left-field : goal.returns-then-left-field
returns-then-left-field c = too_large c.args.run.now c.args.at c.args.marker _ c.number-field.ensures.0 c.if-left-field.true

pub returns : goal.returns
returns c =
    whole c.args.run.now c.args.at c.args.marker _ c.number-field.ensures.0 c.if-run-at.false
    c.if-run-at-2.false (omega (arith, c.if-field-lt2.false)) (omega (arith, c.if-left-field.false))
