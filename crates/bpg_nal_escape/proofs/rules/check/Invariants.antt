-- What is left from `i` on keeps the rules where all does, and its bytes and those before it make up all.
use Rattle.std.proofs.Common.{◌≡◌, ◌+◌, ◌-◌, ◌≤◌, length, drop}
use Rattle.bpg_nal_emulation.specs.Emulation.{unescape, keeps_rules}
use Rattle.bpg_nal_escape.proofs.rules.check.Given as goal

abbrev pub invariant-loop-marks : goal.invariant-loop-marks
invariant-loop-marks l =
    (l.i ≤ length l.unit) × (l.marks ≤ l.i) × (keeps_rules l.unit ≡ keeps_rules (drop l.i l.unit))
    × (length (unescape l.unit) + l.marks ≡ l.i + length (unescape (drop l.i l.unit)))

abbrev pub decreases-loop-marks : goal.decreases-loop-marks
decreases-loop-marks l = length l.unit - l.i
