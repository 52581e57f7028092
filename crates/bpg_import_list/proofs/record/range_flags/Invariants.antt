-- The flags so far are the list's.
use Rattle.std.proofs.Common.{◌≡◌, ℕ, ◌+◌, ◌<◌, false, length, get_or}
use Rattle.bpg_import_list.specs.Fields.{flag_at}
use Rattle.bpg_import_list.proofs.record.range_flags.Given as goal

abbrev pub invariant-loop-i : goal.invariant-loop-i
invariant-loop-i l = record { nine : length l.set-items ≡ 9; same : (j : ℕ) → j < l.i → get_or l.set-items j false ≡ flag_at l.numbers (l.k + j) }
