-- The entries so far are canonical.
use Rattle.std.proofs.Common.{◌≡◌, ◌++◌, map, take, drop}
use Rattle.bpg_canonical_record.specs.Records.{canonical_entry}
use Rattle.bpg_canonical_record.proofs.make_canonical.Given as goal

abbrev pub invariant-loop-entry : goal.invariant-loop-entry
invariant-loop-entry l =
    l.entry-items ≡ map (canonical_entry l.size) (take l.entry-index l.initial.entry-items) ++ drop l.entry-index l.initial.entry-items
