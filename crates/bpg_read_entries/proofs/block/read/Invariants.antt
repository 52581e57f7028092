-- The entries so far count in the block.
use Rattle.std.proofs.Common.{◌-◌}
use Rattle.bpg_format.specs.Limits.{max_entries}
use Rattle.bpg_read_entries.proofs.BlockLaws.{ReadSoFar}
use Rattle.bpg_read_entries.proofs.block.read.Given as goal

abbrev pub invariant-loop-next : goal.invariant-loop-next
invariant-loop-next l = ReadSoFar l.region l.initial.next (record { entry_count = l.entry_count; animation = l.animation }) l.next

abbrev pub decreases-loop-next : goal.decreases-loop-next
decreases-loop-next l = max_entries - l.entry_count
