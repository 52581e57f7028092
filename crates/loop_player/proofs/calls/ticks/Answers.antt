-- The period is known, or it is refused.
use Rattle.std.proofs.Common.{sym}
use Rattle.loop_player.specs.Player.{ticks_of, ticks_answer}
use Rattle.loop_player.proofs.calls.ticks.Goals as goal

pub returns-then-not-period_known : goal.returns-then-not-period_known
unfolding ticks_answer
returns-then-not-period_known c = rw (sym c.if-not-period_known.ensures)

pub returns : goal.returns
unfolding ticks_of ticks_answer
returns c = rw (c.from.ensures, c.from-2.ensures, c.from-3.ensures, sym c.if-not-period_known.ensures)
