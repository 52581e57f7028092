-- What cannot be played, and the answer of a loop that can.
use Rattle.std.proofs.Common.{◌<◌, length, sym, arith}
use borrow.Author.Tests.{ltb-true}
use Rattle.loop_player.proofs.Laws.{and_left, no-period, no_frames, no-duration, all_known, last-answer, span-answer, total-positive}
use Rattle.loop_player.proofs.calls.played.Goals as goal

pub returns-then-not-period_known : goal.returns-then-not-period_known
returns-then-not-period_known c = no-period _ _ _ (sym c.if-not-period_known.ensures)

pub returns-then-not-frames_known : goal.returns-then-not-frames_known
returns-then-not-frames_known c = no_frames _ _ _ (sym c.if-not-frames_known.ensures)

pub returns-in_err-round : goal.returns-in_err-round
returns-in_err-round c = rw c.from_residual.ensures (no-duration _ _ _ c.in_err-round.ensures)

pub returns-then-is_over : goal.returns-then-is_over
returns-then-is_over c =
    let r = c.in_ok-round.ensures in
    let p = all_known _ _ _ (sym c.if-not-period_known.ensures) (sym c.if-not-frames_known.ensures) r.2 in
    last-answer _ _ _ _ _ _ _ p r.0 c.is_over.ensures c.if-is_over.true _ c.last_of.ensures

pub nonzero_rem-tick : goal.nonzero_rem-tick
nonzero_rem-tick c =
    let r = c.in_ok-round.ensures in
    let some : 0 < length c.args.durations.now = ltb-true _ _ (and_left _ _ (sym c.if-not-frames_known.ensures)) in
    let t = total-positive _ some r.2 in
    omega (arith, r.0)

pub returns : goal.returns
returns c =
    let r = c.in_ok-round.ensures in
    let p = all_known _ _ _ (sym c.if-not-period_known.ensures) (sym c.if-not-frames_known.ensures) r.2 in
    span-answer _ _ _ _ _ _ _ p r.0 c.is_over.ensures c.if-is_over.false _ c.frame_in.ensures
