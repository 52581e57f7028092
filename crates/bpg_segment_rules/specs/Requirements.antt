-- Request 10/13 over three payloads, in its own words and as types over the definitions that the calls' contracts cite. `proofs/Requirements`
-- proves them. (What is exported of a file is in `bpg_segment_export/specs/Requirements`.)
use Rattle.std.specs.Prelude.{◌≡◌, List, [], ◌++◌, ◌↔◌, ◌⊎◌, ◌≢◌, ℕ, ◌≤◌, ◌<◌, length, take, drop}
use Rattle.bpg_codec.specs.Lawful.{All, Byte}
use Rattle.bpg_format.specs.declared.answer.Written.{Written}
use Rattle.bpg_format.specs.Zero.{refused_written}
use Rattle.bpg_segment_rules.specs.Runs.{Payloads, payloads, chunk_count, export_run}
use Rattle.bpg_segment_rules.specs.Calls.{export_payloads, export_buffer, joined, refused_import, imported_payloads, import_segments, import_buffer}
use Rattle.bpg_segment_rules.specs.Skipping.{Skippable}

-- what can be exported
pub record Limits (p : Payloads) : Type 0 where
  pub exif : length p.exif ≤ 65527
  pub xmp : length p.xmp ≤ 65504
  pub icc : chunk_count p.icc ≤ 255

abbrev pub Bytes : Payloads → Type 0
Bytes p = All Byte p.exif × All Byte p.xmp × All Byte p.icc

-- a run that is the export of these payloads
pub record IsExport (run : List ℕ) (p : Payloads) : Type 0 where
  pub limits : Limits p
  pub bytes : Bytes p
  pub is : run ≡ export_run p

-- the call answered these payloads: their lengths, and in the buffer their bytes; the rest of the buffer is as it was
pub record Answered (run out : List ℕ) (p : Payloads) : Type 0 where
  pub lengths : import_segments run out ≡ imported_payloads p
  pub in_buffer : import_buffer run out ≡ joined p ++ drop (length (joined p)) out

-- "Import of an export, into room that holds them, gives the payloads back"
pub record RoundTrip : Type 0 where
  pub back : (p : Payloads) (out : List ℕ) → length (joined p) ≤ length out → Answered (export_run p) out p
  -- the export as the call left it in a buffer
  pub from-buffer : (p : Payloads) (out1 out2 : List ℕ) → (export_payloads p out1).status ≡ 0 → length (joined p) ≤ length out2
      → Answered (take (export_payloads p out1).count (export_buffer p out1)) out2 p

-- "and no two sets of payloads share an export."
abbrev pub NoneShared : Type 0
NoneShared = (p q : Payloads) → export_run p ≡ export_run q → p ≡ q

-- "Import a run of such segments": what it accepts is the export of what it answers, and of nothing else. A run is a list of bytes
pub record OnlyExports : Type 0 where
  pub accepted : (run out : List ℕ) → All Byte run → (import_segments run out).status ≡ 0 → (p : Payloads) × IsExport run p × Answered run out p
  -- "36 for a run that does not follow this", whatever the buffer is
  pub exactly-36 : (run out : List ℕ) → All Byte run → ((import_segments run out).status ≡ 36) ↔ ((p : Payloads) → IsExport run p → ⊥)
  -- the empty run is the export of no payload
  pub empty : (out : List ℕ) → Answered [] out (payloads [] [] [])

-- an export is a sequence of well-formed segments of bytes, each of which a JPEG reader can skip
pub record WellFormed : Type 0 where
  pub skippable : (p : Payloads) → Limits p → Skippable (export_run p)
  pub bytes : (p : Payloads) → Limits p → Bytes p → All Byte (export_run p)

abbrev pub written : (count : ℕ) → Written
written n = record { status = 0; offset = 0; count = n }

-- "34 EXIF above 65,527, XMP above 65,504, ICC above 255 chunks; import 36 ..; 20 last. These at place 0."
pub record Refusals : Type 0 where
  pub exported : (p : Payloads) (out : List ℕ) → Limits p → length (export_run p) ≤ length out
      → (export_payloads p out ≡ written (length (export_run p))) × (export_buffer p out ≡ export_run p ++ drop (length (export_run p)) out)
  pub too_long : (p : Payloads) (out : List ℕ) → (Limits p → ⊥) → (export_payloads p out ≡ refused_written 34 0) × (export_buffer p out ≡ out)
  pub small-export : (p : Payloads) (out : List ℕ) → Limits p → length out < length (export_run p)
      → (export_payloads p out ≡ refused_written 20 0) × (export_buffer p out ≡ out)
  pub small-import : (p : Payloads) (out : List ℕ) → length out < length (joined p)
      → (import_segments (export_run p) out ≡ refused_import 20 0) × (import_buffer (export_run p) out ≡ out)
  -- import gives no other refusal, and each leaves the buffer as it was
  pub import-refused : (run out : List ℕ) → (import_segments run out).status ≢ 0
      → ((import_segments run out ≡ refused_import 36 0) ⊎ (import_segments run out ≡ refused_import 20 0)) × (import_buffer run out ≡ out)
