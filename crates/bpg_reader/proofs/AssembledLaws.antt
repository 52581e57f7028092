-- The record that is put together from a survey and the file's entries.
use mathlib.Core.Path.{◌≡◌, refl, sym, ap, ◌∙◌}
use mathlib.Core.Bool.{Bool, true, false}
use mathlib.Core.List.{List}
use Prim.Native.Nat.{ℕ, ◌-◌}
use native.Mathlib.Omega.{arith}
use lib.ListN.{length}
use Rattle.std.specs.Prelude.{Some, None}
use Rattle.bpg_codec.specs.Outcome.{ok}
use Rattle.bpg_codec.specs.Select.{select}
use Rattle.bpg_format.specs.declared.record.Header.{Header}
use Rattle.bpg_format.specs.Content.{Extension, AnimationControl, Content}
use Rattle.bpg_format.specs.Read.{animation_of}
use Rattle.bpg_format.specs.Rules.{has_animation, no_animation}
use Rattle.bpg_format.specs.Records.{entries_at, pad_entries, block_start, data_start, record_of, answer_of, read_file}
use Rattle.bpg_read_head.specs.declared.head.Head.{Head as PlacedHead}
use Rattle.bpg_read_head.specs.Heads.{head_fields}
use Rattle.bpg_read_animation.specs.Animations.{animation_of_control}
use Rattle.bpg_read_survey.specs.declared.rest.RestSurvey.{RestSurvey}
use Rattle.bpg_read_survey.specs.declared.given.FileSurvey.{FileSurvey}
use Rattle.bpg_read_survey.specs.Bodies.{body_content}
use Rattle.bpg_read_survey.specs.Surveys.{rest_of}
use Rattle.bpg_read_survey.proofs.FileRead.{FileRead, starts, file-length}
use Rattle.bpg_reader.specs.Assembled.{loop_of, assembled_reading}

-- ---- the loop numbers

loop-of-block : (t : Bool) (p : AnimationControl) → (t ≡ false → p ≡ no_animation) → loop_of (select t (Some (animation_of_control p)) None) ≡ p
unfolding select
loop-of-block true p h = refl
loop-of-block false p h = sym (h refl)

-- ---- a survey with its head

abbrev surveyed : PlacedHead → RestSurvey → FileSurvey
surveyed h r = record { head = h; rest = r }

-- of a content that has what the head says
module _ (n : ℕ) (head : PlacedHead) (es : List Extension) (alpha color : Header) (bytes : List ℕ) where
  abbrev content : Content
  content = body_content (head_fields head) es alpha color bytes

  assembled : block_start content ≡ head.end.0 → n - length bytes ≡ data_start content → n - data_start content ≡ length bytes
      → (has_animation es ≡ false → animation_of es ≡ no_animation)
      → assembled_reading n (surveyed head (rest_of n content)) (pad_entries (entries_at head.end.0 es)) ≡ answer_of (ok content)
  unfolding record_of
  assembled p q r l = rw (loop-of-block (has_animation es) (animation_of es) l, q, r, p)

module _ {file : List ℕ} {head : PlacedHead} {s : RestSurvey} (k : FileRead file head s) where
  abbrev c : Content
  c = k.content

  pub assembled-file : assembled_reading (length file) (surveyed head s) (pad_entries (entries_at head.end.0 c.extensions)) ≡ read_file file
  unfolding read_file
  assembled-file =
      let es = pad_entries (entries_at head.end.0 c.extensions) in
      let d = ap data_start (sym k.made) in
      let still = λ (h : has_animation c.extensions ≡ false). sym (ap (λ (x : Content). x.control) k.made) ∙ k.rules.no-animation h in
      ap (λ (y : RestSurvey). assembled_reading (length file) (surveyed head y) es) (k.survey ∙ ap (rest_of (length file)) k.made)
      ∙ assembled (length file) head c.extensions c.alpha_header c.color_header c.hevc_data (ap block_start (sym k.made) ∙ starts k)
      (omega (arith, file-length k, d)) (omega (arith, file-length k, d)) still
      ∙ ap (λ (x : Content). answer_of (ok x)) (sym k.made) ∙ ap answer_of (sym k.read)
