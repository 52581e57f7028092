-- Request 10/13 for a file, in its own words and as types over the definitions that the call's contract cites. `proofs/Requirements` proves them.
-- (What a run is, and import, are in `bpg_segment_rules/specs/Requirements`.)
use Rattle.std.specs.Prelude.{◌≡◌, List, [], ◌⊎◌, ◌≢◌, ℕ, ◌≤◌, ◌<◌, length, take}
use Rattle.bpg_codec.specs.Lawful.{All, Byte}
use Rattle.bpg_format.specs.Zero.{refused_written}
use Rattle.bpg_format.specs.Records.{read_file}
use Rattle.bpg_format.specs.Parts.{record_in, entry_of, payload_of}
use Rattle.bpg_segment_rules.specs.Calls.{export_payloads, export_buffer, joined}
use Rattle.bpg_segment_rules.specs.Requirements.{Answered}
use Rattle.bpg_segment_export.specs.Calls.{payload_with, payloads_in, export_segments, exported_buffer}

-- two entries of a file have this tag
pub record Twice (f : List ℕ) (tag : ℕ) : Type 0 where
  pub i : ℕ
  pub j : ℕ
  pub apart : i < j
  pub inside : j < (record_in f).entry_count
  pub first : (entry_of f i).tag ≡ tag
  pub second : (entry_of f j).tag ≡ tag

-- "one of these tags twice, empty or not"
abbrev pub OneTwice : List ℕ → Type 0
OneTwice f = Twice f 1 ⊎ (Twice f 3 ⊎ Twice f 2)

-- the payloads of an accepted file. A file is a list of bytes
pub record OfFile (f : List ℕ) : Type 0 where
  -- the payload of the only entry that has the tag
  pub payload : (tag k : ℕ) → (Twice f tag → ⊥) → k < (record_in f).entry_count → (entry_of f k).tag ≡ tag → payload_with f tag ≡ payload_of f k
  pub absent : (tag : ℕ) → ((k : ℕ) → k < (record_in f).entry_count → (entry_of f k).tag ≢ tag) → payload_with f tag ≡ []

abbrev pub OfFiles : Type 0
OfFiles = (f : List ℕ) → All Byte f → (read_file f).status ≡ 0 → OfFile f

-- "Refusals, after the reader's: 35 ..; 34 ..; 20 last."
pub record Order : Type 0 where
  -- the reader's with its offset
  pub read : (f out : List ℕ) → (read_file f).status ≢ 0
      → (export_segments f out ≡ refused_written (read_file f).status (read_file f).offset) × (exported_buffer f out ≡ out)
  -- 35 at 0, before 34
  pub twice : (f out : List ℕ) → All Byte f → (read_file f).status ≡ 0 → OneTwice f → (export_segments f out ≡ refused_written 35 0) × (exported_buffer f out ≡ out)
  -- else the answer is that for the three payloads
  pub payloads : (f out : List ℕ) → All Byte f → (read_file f).status ≡ 0 → (OneTwice f → ⊥)
      → (export_segments f out ≡ export_payloads (payloads_in f) out) × (exported_buffer f out ≡ export_buffer (payloads_in f) out)

-- "Import of an export, into room that holds them, gives the payloads back", of a file's export as the call left it
abbrev pub FromFile : Type 0
FromFile =
    (f out1 out2 : List ℕ) → (export_segments f out1).status ≡ 0 → length (joined (payloads_in f)) ≤ length out2
    → Answered (take (export_segments f out1).count (exported_buffer f out1)) out2 (payloads_in f)
