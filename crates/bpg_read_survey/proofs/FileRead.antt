-- A file that was surveyed: what its body was read as, and its content.
use mathlib.Core.Path.{◌≡◌, refl, sym, ap, ◌∙◌, subst}
use mathlib.Core.Bool.{Bool, not, ◌||◌}
use mathlib.Core.List.{List}
use Prim.Native.Nat.{ℕ, ◌+◌, ◌≤◌}
use native.Mathlib.Omega.{arith}
use lib.ListN.{length, drop}
use Rattle.std.specs.Prelude.{Result, Ok, Err, IsOk}
use Rattle.bpg_codec.specs.Outcome.{Outcome, ok, error}
use Rattle.bpg_refusal.specs.declared.Refusal.{Refusal}
use Rattle.bpg_refusal.specs.Numbers.{reason_number}
use Rattle.bpg_refusal.specs.Outcomes.{outcome}
use Rattle.bpg_codec.specs.Lawful.{All, Byte}
use Rattle.bpg_codec.proofs.Outcome.{error-not-ok, ok-injective, unbind, unguard}
use Rattle.bpg_format.specs.Limits.{max_file}
use Rattle.bpg_format.specs.Content.{Content, bit_depth}
use Rattle.bpg_format.specs.Syntax.{file_of}
use Rattle.bpg_format.specs.Rules.{has_animation, Rules}
use Rattle.bpg_format.specs.Tests.{counts_to_end, data_allowed}
use Rattle.bpg_format.specs.Read.{Head, read_head, read_block, read_alpha_header, read_header, read_body, read_content}
use Rattle.bpg_format.specs.Records.{block_start, data_start}
use Rattle.bpg_format.proofs.RangeLaws.{data-end}
use Rattle.bpg_format.proofs.ReadingLaws.{read_is}
use Rattle.bpg_read_head.specs.declared.head.Head.{Head as PlacedHead}
use Rattle.bpg_read_head.specs.Heads.{head_fields}
use Rattle.bpg_head_rules.specs.declared.CodedHead.{CodedHead}
use Rattle.bpg_read_survey.specs.declared.rest.RestSurvey.{RestSurvey}
use Rattle.bpg_read_survey.specs.declared.given.Surveyed.{Surveyed}
use Rattle.bpg_read_survey.specs.Given.{read_given}
use Rattle.bpg_read_survey.specs.Bodies.{body_content}
use Rattle.bpg_read_survey.specs.Surveys.{rest_of, survey_of, survey_parts, file_survey}
use Rattle.bpg_read_survey.proofs.HeadOf.{head_of, head-of}
use Rattle.bpg_read_survey.proofs.GivenLaws.{given-accepted}
use Rattle.bpg_read_survey.proofs.BodyLaws.{unanswered, answered}

-- ---- a file whose body was read

-- a content has what its head says
body-fields : (h : Head) (l : List ℕ) (c : Content) → read_body h l ≡ ok c → c ≡ body_content h c.extensions c.alpha_header c.color_header c.hevc_data
unfolding read_body
body-fields h l c e =
    let body = drop h.extension_length l in
    unbind (read_block h l) _ e λ es _ e1.
    unguard (not h.flags.animation || has_animation es) 14 5 _ e1 λ _ e2.
    unguard (counts_to_end h.data_length (length body)) 10 h.data_length_at _ e2 λ _ e3.
    unbind (read_alpha_header h.flags (h.end + h.extension_length) body) _ e3 λ alpha _ e4.
    unbind (read_header (bit_depth h.flags) alpha.next alpha.rest) _ e4 λ color _ e5.
    unguard (data_allowed color.rest) 26 color.next _ e5 λ _ e6.
    subst (λ (d : Content). d ≡ body_content h d.extensions d.alpha_header d.color_header d.hevc_data) (ok-injective e6) refl

-- all that is known of an accepted file from its survey
pub record FileRead (file : List ℕ) (head : PlacedHead) (s : RestSurvey) : Type 0 where
  pub content : Content
  pub made : content ≡ body_content (head_fields head) content.extensions content.alpha_header content.color_header content.hevc_data
  pub rules : Rules content
  pub is : file ≡ file_of content
  pub read : read_content file ≡ ok content
  pub heads : head_fields head ≡ head_of content
  pub survey : s ≡ rest_of (length file) content

module _ (is_own : CodedHead → Bool) (file : List ℕ) where
  abbrev read : Outcome Content
  read = read_given is_own file

  -- a refusal of what follows the head is reading's, with the same two numbers, whichever they are: no `Refusal` is needed
  pub survey-refused : (s o : ℕ) → error s o ≡ (file_survey file read).1 → read ≡ error s o
  survey-refused s o e = unanswered read (rest_of (length file)) s o e

  -- of a survey of the file, by what follows the head
  module _ (s : Surveyed) (e : survey_parts s ≡ file_survey file read) where
    head_said : outcome head_fields s.head ≡ read_head file
    head_said = ap (λ (x : Outcome Head × Outcome RestSurvey). x.0) e

    rest-said : outcome (λ x. x) s.rest ≡ survey_of (length file) read
    rest-said = ap (λ (x : Outcome Head × Outcome RestSurvey). x.1) e

    pub err-said : (r : Refusal) → s.rest ≡ Err r → error (reason_number r.reason) r.offset.0 ≡ (file_survey file read).1
    err-said r is = ap (outcome (λ x. x)) (sym is) ∙ rest-said

    pub survey-err : (r : Refusal) → s.rest ≡ Err r → read ≡ error (reason_number r.reason) r.offset.0
    survey-err r is = survey-refused _ _ (err-said r is)

    module _ (x : RestSurvey) (is : s.rest ≡ Ok x) where
      pub by-content : {P : Type 0} → ((c : Content) → read ≡ ok c → x ≡ rest_of (length file) c → P) → P
      by-content then = answered read (rest_of (length file)) x (ap (outcome (λ x. x)) (sym is) ∙ rest-said) then

      -- then it has a head
      pub head_there : IsOk s.head
      head_there = by-content λ c w _. given-accepted is_own file c w λ h head_read _ _. by s.head (head_said ∙ head_read)
        where
          by : {h : Head} (r : Result PlacedHead Refusal) → outcome head_fields r ≡ ok h → IsOk r
          by (Ok p) e = refl
          by (Err r) e = absurd (error-not-ok e)

      module _ (bytes : All Byte file) (p : PlacedHead) (head_is : s.head ≡ Ok p) where
        accepted : (c : Content) → read ≡ ok c → x ≡ rest_of (length file) c → FileRead file p x × (read ≡ read_content file)
        accepted c w i =
            given-accepted is_own file c w λ h head_read read-body content_read.
            let r = read_is file bytes c content_read in
            let head : head_fields p ≡ h = ok-injective (ap (outcome head_fields) (sym head_is) ∙ head_said ∙ head_read) in (
              record {
                content = c;
                made = subst (λ (x : Head). c ≡ body_content x c.extensions c.alpha_header c.color_header c.hevc_data) (sym head) (body-fields h (drop h.end file) c read-body);
                rules = r.0;
                is = r.1;
                read = content_read;
                heads = head ∙ ok-injective (sym head_read ∙ ap read_head r.1 ∙ head-of c r.0);
                survey = i;
              },
              w ∙ sym content_read,
            )

        pub survey-read : FileRead file p x × (read ≡ read_content file)
        survey-read = by-content accepted

module _ {file : List ℕ} {head : PlacedHead} {s : RestSurvey} (k : FileRead file head s) where
  abbrev c : Content
  c = k.content

  pub starts : block_start c ≡ head.end.0
  starts = ap (λ (h : Head). h.end) (sym k.heads)

  pub counted : s.block.entry_count ≡ length c.extensions
  counted = ap (λ (y : RestSurvey). y.block.entry_count) k.survey

  pub file-length : length file ≡ data_start c + length c.hevc_data
  file-length = ap length k.is ∙ data-end c k.rules

  pub short : length file ≤ max_file
  short = omega (arith, ap length k.is, k.rules.size)

  pub data-inside : s.headers.next.0 ≤ length file
  data-inside = subst (λ (y : RestSurvey). y.headers.next.0 ≤ length file) (sym k.survey) (omega arith)

  pub min-cb-small : s.headers.value.color.log2_min_luma_coding_block_size_minus3 ≤ 3
  min-cb-small =
      subst (λ (y : RestSurvey). y.headers.value.color.log2_min_luma_coding_block_size_minus3 ≤ 3) (sym k.survey) (omega (arith, k.rules.color-header.hevc.ctb-most))
