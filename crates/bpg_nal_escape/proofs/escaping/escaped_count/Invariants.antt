-- The bytes before `i` with their marks, and those of what is left, make up all.
use Rattle.std.proofs.Common.{◌≡◌, ◌+◌, ◌-◌, ◌≤◌, length, drop}
use Rattle.bpg_nal_emulation.specs.Emulation.{escape}
use Rattle.bpg_nal_escape.proofs.escaping.escaped_count.Given as goal

abbrev pub invariant-loop-marks : goal.invariant-loop-marks
invariant-loop-marks l = (l.i ≤ length l.bytes) × (l.marks ≤ l.i) × (length (escape l.bytes) ≡ l.i + l.marks + length (escape (drop l.i l.bytes)))

abbrev pub decreases-loop-marks : goal.decreases-loop-marks
decreases-loop-marks l = length l.bytes - l.i
