use Rattle.std.proofs.Common.{◌≡◌, ◌*◌, ◌≤◌, take}
use Rattle.bpg_write_plan.specs.Layouts.{entries_size}
use Rattle.bpg_write_plan.proofs.layout.block_size.Given as goal

-- the size so far is that of the entries so far, and an entry takes no more than this
abbrev pub invariant-loop-entry : goal.invariant-loop-entry
invariant-loop-entry l = (l.total ≡ entries_size (take l.entry-index l.used)) × (l.total ≤ l.entry-index * 4294967320)
