-- The fixed numbers in the parts that are written.
use mathlib.Core.Path.{◌≡◌, ap, ap₂, ◌∙◌}
use mathlib.Core.List.{List, [], ◌∷◌, ◌++◌, append_assoc, append-nil}
use Prim.Native.Nat.{ℕ, ◌-◌}
use native.Mathlib.Omega.{arith}
use lib.ListN.{length}
use Rattle.bpg_codec.specs.Buffer.{written}
use Rattle.bpg_format.specs.Records.{coded_size}
use Rattle.bpg_read_survey.specs.declared.given.FileSurvey.{FileSurvey}
use Rattle.bpg_export_list.specs.Numbers.{fixed_length, header_numbers, headers_numbers, fixed_numbers}
use Rattle.bpg_export_list.proofs.NumberLaws.{Filled}
use Rattle.bpg_read_list.specs.Surveyed.{first_numbers, survey_numbers}

module _ (len : ℕ) (s : FileSurvey) where
  -- with the coded size as it was computed
  abbrev pub last : (width height : ℕ) → List ℕ
  last w h = s.rest.headers.next.0 ∷ (len - s.rest.headers.next.0) ∷ w ∷ h ∷ s.rest.block.entry_count ∷ []

  abbrev pub parts : (width height : ℕ) → List ℕ
  parts w h = ((first_numbers s.head s.rest.block.animation ++ header_numbers s.rest.headers.value.alpha) ++ header_numbers s.rest.headers.value.color) ++ last w h

  abbrev coded : ℕ → ℕ
  coded = coded_size s.rest.headers.value.color

  parts_are : parts (coded s.head.picture_width) (coded s.head.picture_height) ≡ survey_numbers len s
  unfolding fixed_numbers headers_numbers
  parts_are = simp (append_assoc, append-nil)

  pub fixed-written : {out o : List ℕ} (w h : ℕ) → w ≡ coded s.head.picture_width → h ≡ coded s.head.picture_height → Filled out 0 fixed_length (parts w h) o
      → (o ≡ written out 0 (survey_numbers len s)) × (length (survey_numbers len s) ≡ fixed_length)
  fixed-written {out} w h a b f = let e = ap₂ parts a b ∙ parts_are in (f.is ∙ ap (written out 0) e, omega (arith, ap length e, f.ends))
