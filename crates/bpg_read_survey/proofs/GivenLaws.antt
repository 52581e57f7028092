-- Reading on from a head that was given, by the file's length, by what its head is read as, and by whether that is the one given.
use mathlib.Core.Path.{◌≡◌, refl, sym, ap, ap₂, ◌∙◌, subst}
use mathlib.Core.Bool.{Bool, true, false}
use mathlib.Core.Logic.{◌≢◌}
use mathlib.Core.List.{List}
use Prim.Native.Nat.{ℕ, ◌≤◌, ◌<◌}
use lib.Dec.{leb, leb→le}
use lib.ListN.{length, drop}
use borrow.Author.Tests.{le-leb, lt-leb}
use Rattle.bpg_codec.specs.Outcome.{Outcome, ok, error}
use Rattle.bpg_codec.specs.Lawful.{All, Byte}
use Rattle.bpg_codec.proofs.Lists.{either_way, member-later}
use Rattle.bpg_codec.proofs.Outcome.{unbind, unguard}
use Rattle.bpg_codec.proofs.Refusals.{refuses-error}
use Rattle.bpg_format.specs.Limits.{max_file}
use Rattle.bpg_format.specs.Content.{Content}
use Rattle.bpg_format.specs.Read.{Head, read_head, read_body, read_content, reading_statuses, ReadingStatus}
use Rattle.bpg_format.proofs.RuleLaws.{by-tag}
use Rattle.bpg_format.proofs.ReadingRefusals.{content-refuses}
use Rattle.bpg_read_head.specs.declared.head.Head.{Head as PlacedHead}
use Rattle.bpg_read_head.specs.Heads.{head_fields}
use Rattle.bpg_read_head.proofs.HeadLaws.{head-facts}
use Rattle.bpg_head_rules.specs.declared.CodedHead.{CodedHead}
use Rattle.bpg_head_rules.specs.Calls.{coded_head, fields_of}
use Rattle.bpg_read_survey.specs.declared.rest.RestSurvey.{RestSurvey}
use Rattle.bpg_read_survey.specs.Given.{read_given, BodyStatus}
use Rattle.bpg_read_survey.specs.Bodies.{HeadRead}
use Rattle.bpg_read_survey.specs.Surveys.{survey_of, file_survey}
use Rattle.bpg_read_survey.proofs.ContentSteps.{content-error, content-body}

-- where no head is given, it is reading
pub none-given : (file : List ℕ) → read_given (λ _. true) file ≡ read_content file
unfolding read_given read_content
none-given file = refl

pub given-long : (is_own : CodedHead → Bool) (file : List ℕ) → max_file < length file → read_given is_own file ≡ error 1 0
unfolding read_given
given-long is_own file h = rw (lt-leb (length file) max_file h)

module _ (is_own : CodedHead → Bool) (file : List ℕ) (short : length file ≤ max_file) where
  pub given-refused : (s o : ℕ) → read_head file ≡ error s o → read_given is_own file ≡ error s o
  unfolding read_given
  given-refused s o e = rw (le-leb (length file) max_file short, e)

  module _ (h : Head) (e : read_head file ≡ ok h) where
    pub given-other : is_own (coded_head h) ≡ false → read_given is_own file ≡ error 21 0
    unfolding read_given
    given-other t = rw (le-leb (length file) max_file short, e, t)

    pub given-same : is_own (coded_head h) ≡ true → read_given is_own file ≡ read_body h (drop h.end file)
    unfolding read_given
    given-same t = rw (le-leb (length file) max_file short, e, t)

-- what was read on from a head is what reading gives
pub given-accepted : {P : Type 0} (is_own : CodedHead → Bool) (file : List ℕ) (c : Content) → read_given is_own file ≡ ok c
    → ((h : Head) → read_head file ≡ ok h → read_body h (drop h.end file) ≡ ok c → read_content file ≡ ok c → P) → P
unfolding read_given
given-accepted is_own file c e then =
    unguard (leb (length file) max_file) 1 0 _ e λ short e1.
    unbind (read_head file) _ e1 λ h read e2.
    unguard (is_own (coded_head h)) 21 0 _ e2 λ _ body.
    then h read body (content-body file (leb→le (length file) max_file short) h read ∙ body)

-- ---- the numbers of its refusals

abbrev Numbered : (status offset : ℕ) → Type 0
Numbered s o = BodyStatus s

reading-number : (s : ℕ) → ReadingStatus s → BodyStatus s
reading-number s t = member-later s 21 reading_statuses t

by-head : {P : Type 0} (f : List ℕ) → ((s o : ℕ) → read_head f ≡ error s o → P) → ((h : Head) → read_head f ≡ ok h → P) → P
by-head {P} f on-error on-ok = by (read_head f) refl
  where
    by : (o : Outcome Head) → read_head f ≡ o → P
    by (ok h) e = on-ok h e
    by (error s o) e = on-error s o e

pub given-refuses : (is_own : CodedHead → Bool) (f : List ℕ) (s o : ℕ) → read_given is_own f ≡ error s o → BodyStatus s
given-refuses is_own f s o e =
    either_way (length f) max_file
    (λ short.
    by-head f
    (λ t p w. refuses-error Numbered t p (reading-number t (content-refuses f t p (content-error f short t p w))) s o (sym (given-refused is_own f short t p w) ∙ e))
    (λ h w.
    by-tag (is_own (coded_head h))
    (λ t. reading-number s (content-refuses f s o (content-body f short h w ∙ sym (given-same is_own f short h w t) ∙ e)))
    (λ t. refuses-error Numbered 21 0 tt s o (sym (given-other is_own f short h w t) ∙ e))))
    (λ long. refuses-error Numbered 1 0 tt s o (sym (given-long is_own f long) ∙ e))

pub given-not-zero : (is_own : CodedHead → Bool) (f : List ℕ) (s o : ℕ) → read_given is_own f ≡ error s o → s ≢ 0
given-not-zero is_own f s o e z = subst BodyStatus z (given-refuses is_own f s o e)

-- ---- the survey's steps

pub head-known : (file : List ℕ) → All Byte file → length file ≤ max_file → (head : PlacedHead) → ok (head_fields head) ≡ read_head file → HeadRead file (head_fields head)
head-known file bytes short head e =
    let f = head-facts file (head_fields head) (sym e) in
    record { bytes = bytes; short = short; read = sym e; end-inside = f.end-inside; depth-limit = f.depth-limit }

module _ (is_own : CodedHead → Bool) (file : List ℕ) where
  -- what follows the head, in a file of this length
  abbrev rest : Outcome RestSurvey
  rest = survey_of (length file) (read_given is_own file)

  pub too_long : max_file < length file → error 1 0 ≡ rest
  too_long h = rw (given-long is_own file h)

  module _ (short : length file ≤ max_file) where
    pub head-refused : (s o : ℕ) → error s o ≡ read_head file → error s o ≡ rest
    head-refused s o e = rw (given-refused is_own file short s o (sym e))

    module _ (head : PlacedHead) (e : ok (head_fields head) ≡ read_head file) where
      pub other-head : is_own (fields_of head) ≡ false → error 21 0 ≡ rest
      other-head t = rw (given-other is_own file short (head_fields head) (sym e) t)

      pub rest-is : is_own (fields_of head) ≡ true → survey_of (length file) (read_body (head_fields head) (drop head.end.0 file)) ≡ rest
      rest-is t = ap (survey_of (length file)) (sym (given-same is_own file short (head_fields head) (sym e) t))

      -- so it is refused as the body is, and of an accepted file it has the body's parts, the head beside them
      module _ (t : is_own (fields_of head) ≡ true) where
        pub rest-refused : (s o : ℕ) → error s o ≡ survey_of (length file) (read_body (head_fields head) (drop head.end.0 file)) → error s o ≡ rest
        rest-refused s o r = r ∙ rest-is t

        pub rest-read : (x : RestSurvey) → ok x ≡ survey_of (length file) (read_body (head_fields head) (drop head.end.0 file))
            → (ok (head_fields head), ok x) ≡ file_survey file (read_given is_own file)
        rest-read x r = ap₂ (λ (h : Outcome Head) (s : Outcome RestSurvey). (h, s)) e (r ∙ rest-is t)
