-- Each call reads on from where the last stopped.
use Rattle.std.proofs.Common.{arith}
use Rattle.bpg_sei.proofs.AnswerLaws.{no-type, no_size, no-duration, timed-message, no_payload, plain-message}
use Rattle.bpg_sei.proofs.message.read.Goals as goal

pub returns-in_err-kind : goal.returns-in_err-kind
returns-in_err-kind c = rw c.from_residual.ensures (no-type _ _ c.in_err-kind.ensures)

pub returns-in_err-size : goal.returns-in_err-size
returns-in_err-size c = rw c.from_residual-in_err-size.ensures (no_size _ _ _ c.in_ok-kind.ensures c.in_err-size.ensures)

pub returns-in_err-duration : goal.returns-in_err-duration
returns-in_err-duration c =
    rw c.from_residual-in_err-duration.ensures
    (no-duration _ _ _ c.in_ok-kind.ensures _ c.in_ok-size.ensures (omega arith) c.if-kind-eq-FRAME_DURATION.true c.in_err-duration.ensures)

pub returns-then-kind-eq-FRAME_DURATION : goal.returns-then-kind-eq-FRAME_DURATION
returns-then-kind-eq-FRAME_DURATION c =
    timed-message _ _ _ c.in_ok-kind.ensures _ c.in_ok-size.ensures (omega arith) c.if-kind-eq-FRAME_DURATION.true _ c.in_ok-duration.ensures

pub returns-in_err-next : goal.returns-in_err-next
returns-in_err-next c =
    rw c.from_residual-in_err-next.ensures
    (no_payload _ _ _ c.in_ok-kind.ensures _ c.in_ok-size.ensures (omega arith) c.if-kind-eq-FRAME_DURATION.false c.in_err-next.ensures)

pub returns : goal.returns
returns c = plain-message _ _ _ c.in_ok-kind.ensures _ c.in_ok-size.ensures (omega arith) c.if-kind-eq-FRAME_DURATION.false _ c.in_ok-next.ensures
