-- A worked example: the payloads 1 2, 3 and 4 5 6 as a run, and runs that are refused. `proofs/Examples` proves them by computation.
use Rattle.std.specs.Prelude.{◌≡◌, List, [], ◌∷◌, ◌++◌, ℕ}
use Rattle.bpg_codec.specs.Outcome.{ok, error}
use Rattle.bpg_segment_rules.specs.Runs.{Payloads, payloads, export_run, import_run}

abbrev pub three : Payloads
three = payloads (1 ∷ 2 ∷ []) (3 ∷ []) (4 ∷ 5 ∷ 6 ∷ [])

-- FF E1, 2 + 6 + 2, "Exif"
abbrev pub exif_segment : List ℕ
exif_segment = 255 ∷ 225 ∷ 0 ∷ 10 ∷ 69 ∷ 120 ∷ 105 ∷ 102 ∷ 0 ∷ 0 ∷ 1 ∷ 2 ∷ []

-- FF E1, 2 + 29 + 1, "http://ns.adobe.com/xap/1.0/"
abbrev pub xmp_segment : List ℕ
xmp_segment =
    255 ∷ 225 ∷ 0 ∷ 32 ∷ 104 ∷ 116 ∷ 116 ∷ 112 ∷ 58 ∷ 47 ∷ 47 ∷ 110 ∷ 115 ∷ 46 ∷ 97 ∷ 100 ∷ 111 ∷ 98 ∷ 101 ∷ 46 ∷ 99 ∷ 111 ∷ 109 ∷ 47 ∷ 120 ∷ 97 ∷ 112 ∷ 47 ∷ 49 ∷ 46 ∷ 48
    ∷ 47 ∷ 0 ∷ 3 ∷ []

-- FF E2, 2 + 14 + 3, "ICC_PROFILE", with this chunk number and count
abbrev pub icc_segment : (number count : ℕ) → List ℕ
icc_segment number count =
    255 ∷ 226 ∷ 0 ∷ 19 ∷ 73 ∷ 67 ∷ 67 ∷ 95 ∷ 80 ∷ 82 ∷ 79 ∷ 70 ∷ 73 ∷ 76 ∷ 69 ∷ 0 ∷ number ∷ count ∷ 4 ∷ 5 ∷ 6 ∷ []

-- an empty EXIF segment
abbrev pub empty_segment : List ℕ
empty_segment = 255 ∷ 225 ∷ 0 ∷ 8 ∷ 69 ∷ 120 ∷ 105 ∷ 102 ∷ 0 ∷ 0 ∷ []

pub record Examples : Type 0 where
  pub run : export_run three ≡ exif_segment ++ (xmp_segment ++ icc_segment 1 1)
  pub back : import_run (exif_segment ++ (xmp_segment ++ icc_segment 1 1)) ≡ ok three
  pub some : import_run xmp_segment ≡ ok (payloads [] (3 ∷ []) [])
  pub nothing : import_run [] ≡ ok (payloads [] [] [])
  -- ICC before XMP; XMP before EXIF; an empty payload's segment; chunks from 0; a wrong count; a byte too many; one too few
  pub icc-first : import_run (icc_segment 1 1 ++ xmp_segment) ≡ error 36 0
  pub xmp-first : import_run (xmp_segment ++ exif_segment) ≡ error 36 0
  pub empty : import_run empty_segment ≡ error 36 0
  pub from_zero : import_run (icc_segment 0 1) ≡ error 36 0
  pub wrong-count : import_run (icc_segment 1 2) ≡ error 36 0
  pub longer : import_run (exif_segment ++ (0 ∷ [])) ≡ error 36 0
  pub shorter : import_run (255 ∷ 225 ∷ 0 ∷ 10 ∷ 69 ∷ 120 ∷ 105 ∷ 102 ∷ 0 ∷ 0 ∷ 1 ∷ []) ≡ error 36 0
