-- The extension block of an accepted file begins where its head ends, and is as long as the head says.
use mathlib.Core.Path.{◌≡◌, sym, ap, ap₂, ◌∙◌}
use mathlib.Core.List.{List}
use Prim.Native.Nat.{ℕ, ◌+◌}
use Rattle.std.specs.Prelude.{None, Err}
use Rattle.bpg_codec.specs.Outcome.{error}
use Rattle.bpg_refusal.specs.declared.Refusal.{Refusal}
use Rattle.bpg_read_head.specs.declared.head.Head.{Head as PlacedHead}
use Rattle.bpg_format.specs.Read.{Head}
use Rattle.bpg_read_survey.specs.Given.{read_given}
use Rattle.bpg_read_survey.specs.Bodies.{asked}
use Rattle.bpg_read_survey.specs.Surveys.{survey_parts, file_survey}
use Rattle.bpg_read_survey.proofs.GivenLaws.{none-given}
use Rattle.bpg_read_survey.specs.declared.given.Surveyed.{Surveyed}
use Rattle.bpg_read_survey.specs.declared.rest.RestSurvey.{RestSurvey}
use Rattle.bpg_read_survey.proofs.FileRead.{FileRead, starts, survey-refused, err-said}
use Rattle.bpg_parts.specs.Bounds.{bounds, bounds_of, block_bounds}

module _ (file : List ℕ) where
  pub refused-bounds : (s o : ℕ) → error s o ≡ (file_survey file (read_given (asked None) file)).1 → bounds 0 0 ≡ block_bounds file
  unfolding block_bounds
  refused-bounds s o e = ap bounds_of (sym (survey-refused (asked None) file s o e) ∙ none-given file)

  pub bounds-err : (s : Surveyed) → survey_parts s ≡ file_survey file (read_given (asked None) file) → (r : Refusal) → s.rest ≡ Err r → bounds 0 0 ≡ block_bounds file
  bounds-err s e r is = refused-bounds _ _ (err-said (asked None) file s e r is)

  pub accepted-bounds : (head : PlacedHead) (rest : RestSurvey) → FileRead file head rest → bounds head.end.0 (head.end.0 + head.extension_length) ≡ block_bounds file
  unfolding block_bounds
  accepted-bounds head rest k =
      ap₂ (λ (p n : ℕ). bounds p (p + n)) (sym (starts k)) (ap (λ (h : Head). h.extension_length) k.heads) ∙ ap bounds_of (sym k.read)
