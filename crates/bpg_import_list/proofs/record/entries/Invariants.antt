-- The entries so far are the list's, and the others are zero.
use Rattle.std.proofs.Common.{◌≡◌}
use Rattle.bpg_format.specs.Records.{pad_entries}
use Rattle.bpg_export_list.specs.Numbers.{fixed_length}
use Rattle.bpg_import_list.specs.Fields.{list_entries}
use Rattle.bpg_import_list.proofs.record.entries.Given as goal

abbrev pub invariant-loop-k : goal.invariant-loop-k
invariant-loop-k l = l.all ≡ pad_entries (list_entries l.numbers fixed_length l.k)
