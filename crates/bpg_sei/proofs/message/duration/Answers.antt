-- A duration has two bytes, and both are there.
use Rattle.std.proofs.Common.{arith}
use Rattle.bpg_sei.proofs.AnswerLaws.{no-high, no-low, a-duration}
use Rattle.bpg_sei.proofs.message.duration.Goals as goal

pub returns-in_err-high : goal.returns-in_err-high
returns-in_err-high c = rw c.from_residual.ensures (no-high _ _ _ (omega arith) c.in_err-high.ensures)

pub returns-in_err-low : goal.returns-in_err-low
returns-in_err-low c = rw c.from_residual-in_err-low.ensures (no-low _ _ _ (omega arith) _ c.in_ok-high.ensures c.in_err-low.ensures)

pub returns : goal.returns
returns c =
    rw (c.from.ensures, c.from-2.ensures) (a-duration _ _ _ (omega arith) _ c.in_ok-high.ensures _ c.in_ok-low.ensures)
