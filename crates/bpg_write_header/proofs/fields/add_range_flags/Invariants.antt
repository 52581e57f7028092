-- The flags so far are added.
use Rattle.std.proofs.Common.{take}
use Rattle.bpg_write_header.specs.Adding.{Added}
use Rattle.bpg_write_header.proofs.fields.add_range_flags.Given as goal

abbrev pub invariant-loop-flag : goal.invariant-loop-flag
invariant-loop-flag l = Added l.initial.all (take l.flag-index l.flag-items) l.all
