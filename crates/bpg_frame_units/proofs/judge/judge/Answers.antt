-- A unit that is refused, one whose duration clashes, one that is well.
use Rattle.std.proofs.Common.{sym, ◌∙◌}
use Rattle.std.proofs.lemmas.Result.{err_from_is_err_and}
use Rattle.bpg_frame_units.proofs.UnitLaws.{judged-refused, judged-settled, judged-clash}
use Rattle.bpg_frame_units.proofs.judge.judge.Goals as goal

pub returns-in_err-verdict : goal.returns-in_err-verdict
returns-in_err-verdict c =
    let p = err_from_is_err_and c.from_residual.result c.from_residual.ensures.1 in
    λ w k. rw (p.1, p.2) (judged-refused _ w _ _ c.in_err-verdict.ensures)

pub returns-then-settles : goal.returns-then-settles
returns-then-settles c = λ w k. judged-settled _ w _ _ c.in_ok-verdict.ensures _ k (sym c.settles.ensures ∙ c.if-settles.true)

pub returns-else-settles : goal.returns-else-settles
returns-else-settles c = λ w k. judged-clash _ w _ _ c.in_ok-verdict.ensures _ k (sym c.settles.ensures ∙ c.if-settles.false)
