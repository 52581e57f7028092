-- The content here: the byte, or the one behind a mark; none at the end of the unit.
use Rattle.std.proofs.Common.{◌∙◌, sym}
use Rattle.bpg_sei.proofs.StepLaws.{past_end, step-byte, mark-last, step-mark}
use Rattle.bpg_sei.proofs.content.Cursor.next.Goals as goal

pub returns-in_err-byte : goal.returns-in_err-byte
returns-in_err-byte c = rw c.from_residual.ensures (past_end _ _ c.in_err-byte.ensures.lookup.3)

pub returns-then-not-is_mark : goal.returns-then-not-is_mark
returns-then-not-is_mark c =
    let l = c.in_ok-byte.ensures.lookup.3 in
    rw c.passed.ensures (step-byte _ _ l.0 _ (l.1 0) (sym c.is_mark.ensures ∙ c.if-not-is_mark.true))

pub returns-in_err-byte-2 : goal.returns-in_err-byte-2
returns-in_err-byte-2 c =
    let l = c.in_ok-byte.ensures.lookup.3 in
    rw c.from_residual-in_err-byte-2.ensures
    (mark-last _ _ l.0 _ (l.1 0) (sym c.is_mark.ensures ∙ c.if-not-is_mark.false) c.in_err-byte-2.ensures.lookup.3)

pub returns : goal.returns
returns c =
    let l = c.in_ok-byte.ensures.lookup.3 in
    let k = c.in_ok-byte-2.ensures.lookup.3 in
    rw c.passed-2.ensures (step-mark _ _ l.0 _ (l.1 0) (sym c.is_mark.ensures ∙ c.if-not-is_mark.false) k.0 _ (k.1 0))
