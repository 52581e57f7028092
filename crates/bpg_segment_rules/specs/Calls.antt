-- What export of three payloads and import of a run answer, and what they leave in the buffer.
use Rattle.std.specs.Prelude.{List, ◌++◌, ℕ, leb, length, drop}
use Rattle.bpg_codec.specs.Outcome.{Outcome, ok, error, ◌>>=◌, guard}
use Rattle.bpg_format.specs.declared.answer.Written.{Written}
use Rattle.bpg_format.specs.Write.{written_answer, written_buffer}
use Rattle.bpg_segment_rules.specs.declared.answer.Imported.{Imported}
use Rattle.bpg_segment_rules.specs.Runs.{Payloads, export_run, within_limits, import_run}

-- ---- export: 34, then 20

unfoldable pub export_outcome : (capacity : ℕ) → Payloads → Outcome (List ℕ)
export_outcome capacity p =
    guard (within_limits p) 34 0 >>= λ _.
    guard (leb (length (export_run p)) capacity) 20 0 >>= λ _.
    ok (export_run p)

unfoldable pub export_payloads : Payloads → (out : List ℕ) → Written
export_payloads p out = written_answer (export_outcome (length out) p)

unfoldable pub export_buffer : Payloads → (out : List ℕ) → List ℕ
export_buffer p out = written_buffer (export_outcome (length out) p) out

-- ---- import: 36, then 20

-- "to the payloads, end to end in the room"
abbrev pub joined : Payloads → List ℕ
joined p = p.exif ++ (p.xmp ++ p.icc)

unfoldable pub import_outcome : (capacity : ℕ) → List ℕ → Outcome Payloads
import_outcome capacity run = import_run run >>= λ p. guard (leb (length (joined p)) capacity) 20 0 >>= λ _. ok p

abbrev pub refused_import : (status offset : ℕ) → Imported
refused_import s o = record { status = s; offset = o; exif_length = 0; xmp_length = 0; icc_length = 0 }

-- "and their three lengths"
abbrev pub imported_payloads : Payloads → Imported
imported_payloads p =
    record { status = 0; offset = 0; exif_length = length p.exif; xmp_length = length p.xmp; icc_length = length p.icc }

abbrev pub imported_answer : Outcome Payloads → Imported
imported_answer (ok p) = imported_payloads p
imported_answer (error s o) = refused_import s o

abbrev pub imported_buffer : Outcome Payloads → List ℕ → List ℕ
imported_buffer (ok p) out = joined p ++ drop (length (joined p)) out
imported_buffer (error s o) out = out

unfoldable pub import_segments : (run out : List ℕ) → Imported
import_segments run out = imported_answer (import_outcome (length out) run)

unfoldable pub import_buffer : (run out : List ℕ) → List ℕ
import_buffer run out = imported_buffer (import_outcome (length out) run) out
