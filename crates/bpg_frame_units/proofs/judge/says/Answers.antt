-- The tests of the header, in their order.
use Rattle.std.proofs.Common.{ap, ◌∙◌}
use Rattle.bpg_frame_units.specs.Answers.{verdict_of}
use Rattle.bpg_frame_units.proofs.UnitLaws.{unit-short, unit-forbidden, unit-temporal, unit-kind}
use Rattle.bpg_frame_units.proofs.judge.says.Goals as goal

pub returns-then-unit-lt2 : goal.returns-then-unit-lt2
returns-then-unit-lt2 c = unit-short _ _ c.if-unit-lt2.true

pub returns-then-header : goal.returns-then-header
returns-then-header c = unit-forbidden _ _ c.if-unit-lt2.false (rw c.of-header.ensures at c.if-header.true)

pub returns-then-header-eq0 : goal.returns-then-header-eq0
returns-then-header-eq0 c =
    unit-temporal _ _ c.if-unit-lt2.false (rw c.of-header.ensures at c.if-header.false) (rw c.of-header.ensures at c.if-header-eq0.true)

pub returns : goal.returns
returns c =
    let t = rw c.of-header.ensures at c.if-header-eq0.false in
    c.verdict_on.ensures (record { long = c.if-unit-lt2.false; temporal = λ e. t (rw e) })
    ∙ ap verdict_of (unit-kind _ _ c.if-unit-lt2.false (rw c.of-header.ensures at c.if-header.false) t c.requires)
