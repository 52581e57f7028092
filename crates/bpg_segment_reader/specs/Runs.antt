-- What is found in a run.
use Rattle.std.specs.Prelude.{◌≡◌, List, [], ℕ, ◌≤◌, length, drop, Option, Some, None}
use Rattle.bpg_codec.specs.Outcome.{Outcome, ok, error}
use Rattle.bpg_segment_rules.specs.Runs.{payloads, icc_in, import_run}
use Rattle.bpg_segment_reader.specs.declared.run.Found.{Found}
use Rattle.bpg_segment_reader.specs.Places.{bytes_of}

abbrev pub value_of : Outcome (List ℕ) → List ℕ
value_of (ok i) = i
value_of (error s o) = []

-- the profile that stands at the front
unfoldable pub profile_in : List ℕ → List ℕ
profile_in l = value_of (icc_in l)

-- of a run that export can make
pub record PartsIn (run : List ℕ) (r : Found) : Type 0 where
  pub exif-ordered : r.exif.start ≤ r.exif.end
  pub exif-inside : r.exif.end ≤ length run
  pub apart : r.exif.end ≤ r.xmp.start
  pub xmp-ordered : r.xmp.start ≤ r.xmp.end
  pub xmp-inside : r.xmp.end ≤ length run
  pub accepted : import_run run ≡ ok (payloads (bytes_of run r.exif) (bytes_of run r.xmp) (profile_in (drop r.xmp.end run)))
  pub icc : icc_in (drop r.xmp.end run) ≡ ok (profile_in (drop r.xmp.end run))
  pub icc-length : length (profile_in (drop r.xmp.end run)) ≡ r.icc_length

abbrev pub FoundIn : (run : List ℕ) → Option Found → Type 0
FoundIn run (Some r) = PartsIn run r
FoundIn run None = import_run run ≡ error 36 0
