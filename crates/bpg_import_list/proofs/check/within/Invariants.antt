-- What fitted so far, and what is left, decide.
use Rattle.std.proofs.Common.{◌≡◌, ◌&&◌, drop}
use Rattle.bpg_import_list.specs.Calls.{within as within_fields}
use Rattle.bpg_import_list.proofs.check.within.Given as goal

abbrev pub invariant-loop-k : goal.invariant-loop-k
invariant-loop-k l = within_fields l.fields l.numbers ≡ (l.fit && within_fields (drop l.k l.fields) (drop l.k l.numbers))
