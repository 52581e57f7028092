-- The frames passed, and the frame of what is left in the rest, make up the frame.
use Rattle.std.proofs.Common.{◌≡◌, ◌+◌}
use lib.ListN.{drop}
use Rattle.loop_player.specs.Player.{frame_in}
use Rattle.loop_player.proofs.round.frame_in.Given as goal

abbrev pub invariant-loop-i : goal.invariant-loop-i
invariant-loop-i l = l.i + frame_in (drop l.i l.durations) l.left ≡ frame_in l.durations l.fn.r
