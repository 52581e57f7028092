-- What was seen and the rest give the whole.
use Rattle.std.proofs.Common.{◌≡◌, ◌+◌, ◌*◌, ◌≤◌}
use mathlib.Core.Bool.{◌&&◌}
use lib.ListN.{drop}
use Rattle.loop_player.specs.Player.{total, all_positive}
use Rattle.loop_player.proofs.round.add_up.Given as goal

abbrev pub invariant-loop-duration : goal.invariant-loop-duration
invariant-loop-duration l =
    record {
      small : l.ticks ≤ 65535 * l.duration-index;
      sum : l.ticks + total (drop l.duration-index l.durations) ≡ total l.durations;
      all : l.positive && all_positive (drop l.duration-index l.durations) ≡ all_positive l.durations;
    }
