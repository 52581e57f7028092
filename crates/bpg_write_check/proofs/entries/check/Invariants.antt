use Rattle.std.proofs.Common.{◌≡◌, false, map, drop}
use Rattle.bpg_format.specs.Records.{extension_of, record_animation}
use Rattle.bpg_format.specs.Write.{check_entries}
use Rattle.bpg_write_check.proofs.entries.check.Given as goal

-- what is left of the entries decides
abbrev pub invariant-loop-entry : goal.invariant-loop-entry
invariant-loop-entry l =
    check_entries (record_animation l.«record») l.seen (map (extension_of l.source) (drop l.entry-index l.used))
    ≡ check_entries (record_animation l.«record») false (map (extension_of l.source) l.used)
