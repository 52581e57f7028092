-- What stands from `last` on is zeros.
use Rattle.std.proofs.Common.{◌≡◌, length, take, drop, ◌≤◌}
use Rattle.bpg_nal_units.specs.Units.{trim_zeros}
use Rattle.bpg_nal_units.proofs.cut.trimmed.Given as goal

abbrev pub invariant-loop-last : goal.invariant-loop-last
invariant-loop-last l =
    (l.last ≤ length l.region) × (trim_zeros (drop l.start.0 (take l.fn.code.0 l.region)) ≡ trim_zeros (drop l.start.0 (take l.last l.region)))
