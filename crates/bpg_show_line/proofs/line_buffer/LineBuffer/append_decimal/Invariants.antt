-- The digits that are left, put before those that are stored, are all of v's.
use Rattle.std.proofs.Common.{◌≡◌, ◌++◌, ◌≤◌, ◌<◌, length, drop}
use Rattle.bpg_show_line.specs.Text.{decimal}
use Rattle.bpg_show_line.proofs.DecimalLaws.{leading}
use Rattle.bpg_show_line.proofs.line_buffer.LineBuffer.append_decimal.Given as goal

abbrev pub invariant-loop-left : goal.invariant-loop-left
invariant-loop-left l = record {
  digits : leading l.left ++ drop l.next l.digits ≡ decimal l.v;
  size : length l.digits ≡ 20;
  room : length (leading l.left) ≤ l.next;
  place : l.next < 20;
}

abbrev pub decreases-loop-left : goal.decreases-loop-left
decreases-loop-left l = l.left
