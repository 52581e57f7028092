-- Looking on from `i` gives what looking from the start does.
use Rattle.std.proofs.Common.{◌≡◌, ◌-◌, length}
use Rattle.bpg_nal_units.specs.Search.{offset_from}
use Rattle.bpg_nal_emulation.specs.Emulation.{starts_pattern}
use Rattle.bpg_nal_emulation.proofs.pattern.next.Given as goal

abbrev pub invariant-loop-end : goal.invariant-loop-end
invariant-loop-end l = offset_from starts_pattern l.bytes l.fn.from.0 ≡ offset_from starts_pattern l.bytes l.i

abbrev pub decreases-loop-end : goal.decreases-loop-end
decreases-loop-end l = length l.bytes - l.i
