-- Looking on from `i` gives what looking from the start does.
use Rattle.std.proofs.Common.{◌-◌, ◌≡◌}
use Rattle.bpg_nal_units.specs.Units.{code_from}
use Rattle.bpg_nal_units.proofs.start_code.next.Given as goal

abbrev pub invariant-loop-i : goal.invariant-loop-i
invariant-loop-i l = code_from l.region l.fn.from.0 ≡ code_from l.region l.i

abbrev pub decreases-loop-i : goal.decreases-loop-i
decreases-loop-i l = l.last - l.i
