use borrow.Author.Tests.{le-leb, lt-leb, eq-eqb, ne_eqb}
use Rattle.bpg_format.specs.Records.{content_of}
use Rattle.bpg_write_check.specs.Check.{check_picture}
use Rattle.bpg_write_check.proofs.content.check_picture.Goals as goal

pub returns-then-record-gt5 : goal.returns-then-record-gt5
unfolding check_picture content_of
returns-then-record-gt5 c = λ source. rw (lt-leb _ _ c.if-record-gt5.true)

pub returns-then-record-gt6 : goal.returns-then-record-gt6
unfolding check_picture content_of
returns-then-record-gt6 c = λ source. rw (le-leb _ _ c.if-record-gt5.false, lt-leb _ _ c.if-record-gt6.true)

pub returns-then-not-color_space_allowed : goal.returns-then-not-color_space_allowed
unfolding check_picture content_of
returns-then-not-color_space_allowed c =
    λ source. rw (le-leb _ _ c.if-record-gt5.false, le-leb _ _ c.if-record-gt6.false, ← c.if-not-color_space_allowed.ensures)

pub returns-then-record-eq0 : goal.returns-then-record-eq0
unfolding check_picture content_of
returns-then-record-eq0 c =
    λ source. rw (le-leb _ _ c.if-record-gt5.false, le-leb _ _ c.if-record-gt6.false, ← c.if-not-color_space_allowed.ensures, eq-eqb _ _ c.if-record-eq0.true)

pub returns-then-record-eq0-2 : goal.returns-then-record-eq0-2
unfolding check_picture content_of
returns-then-record-eq0-2 c =
    λ source.
    rw (le-leb _ _ c.if-record-gt5.false, le-leb _ _ c.if-record-gt6.false, ← c.if-not-color_space_allowed.ensures, ne_eqb _ _ c.if-record-eq0.false, eq-eqb _ _ c.if-record-eq0-2.true)

pub returns : goal.returns
unfolding check_picture content_of
returns c =
    λ source.
    rw (le-leb _ _ c.if-record-gt5.false, le-leb _ _ c.if-record-gt6.false, ← c.if-not-color_space_allowed.ensures, ne_eqb _ _ c.if-record-eq0.false, ne_eqb _ _ c.if-record-eq0-2.false)
