-- The requirements of reading in two calls are met.
use mathlib.Core.Path.{◌≡◌, refl, sym, ap, ◌∙◌, subst}
use mathlib.Core.Logic.{◌≢◌}
use mathlib.Core.List.{List}
use Prim.Native.Nat.{ℕ, ◌≤◌, ◌<◌}
use lib.Dec.{leb, eqb}
use lib.ListN.{length, take, length-take}
use borrow.Author.Tests.{le-leb, lt-leb, eq-eqb, ne_eqb}
use native.Mathlib.Decide.{ℕ_discrete}
use native.Mathlib.Omega.{arith}
use Rattle.bpg_codec.specs.Select.{select}
use Rattle.bpg_codec.specs.Outcome.{Outcome, ok, error}
use Rattle.bpg_codec.proofs.Lists.{either_way}
use Rattle.bpg_codec.proofs.Select.{select-true, select-false}
use Rattle.bpg_format.specs.Limits.{max_file}
use Rattle.bpg_format.specs.Zero.{refused_reading}
use Rattle.bpg_format.specs.Content.{Content}
use Rattle.bpg_format.specs.Syntax.{file_of}
use Rattle.bpg_format.specs.Rules.{Rules}
use Rattle.bpg_format.specs.Read.{Head, read_head, read_content}
use Rattle.bpg_format.specs.Records.{answer_of, read_file}
use Rattle.bpg_format.proofs.RuleLaws.{by-tag}
use Rattle.bpg_head_rules.specs.declared.CodedHead.{CodedHead}
use Rattle.bpg_head_rules.specs.Calls.{coded_head, head_reading, head_file, HeadStatus, head_numbers, is_head}
use Rattle.bpg_head_rules.proofs.CallLaws.{numbers-means, is-head-if, is-head-means}
use Rattle.bpg_head_rules.proofs.HeadRefusals.{head-refuses}
use Rattle.bpg_read_survey.specs.Given.{read_given, BodyStatus}
use Rattle.bpg_reader.specs.Calls.{body_list, body_file}
use Rattle.bpg_reader.specs.Requirements.{head_of_content, HeadFirst, BodyRefusals, BodyListRefusals}
use Rattle.bpg_read_survey.proofs.HeadOf.{head-of}
use Rattle.bpg_reader.proofs.FileLaws.{too_long}
use Rattle.bpg_read_survey.proofs.ContentSteps.{content-error, content-body}
use Rattle.bpg_read_survey.proofs.GivenLaws.{given-long, given-refused, given-other, given-same, given-refuses}

-- ---- a file by its head

-- what the head call answers, with what was read
module _ {P : Type 0} (f : List ℕ) where
  pub by-head : ((s o : ℕ) → read_head f ≡ error s o → (head_file f).status ≢ 0 → P) → ((h : Head) → read_head f ≡ ok h → (head_file f).status ≡ 0 → P) → P
  unfolding head_file
  by-head on-error on-ok = by (read_head f) refl
    where
      by : (o : Outcome Head) → read_head f ≡ o → P
      by (ok h) e = on-ok h e (ap (λ (m : Outcome Head). (head_reading m).status) e)
      by (error s o) e = on-error s o e (λ z. subst HeadStatus (sym (ap (λ (m : Outcome Head). (head_reading m).status) e) ∙ z) (head-refuses f s o e))

body-long : (given f : List ℕ) → max_file < length f → body_list given f ≡ refused_reading 1 0
unfolding body_list
body-long given f h = ap answer_of (given-long (is_head given) f h)

body-head : (given f : List ℕ) → length f ≤ max_file → (head_file f).status ≢ 0 → body_list given f ≡ refused_reading (head_file f).status (head_file f).offset
unfolding body_list head_file
body-head given f short n = by-head f (λ s o e _. rw (given-refused (is_head given) f short s o e, e)) (λ h e z. absurd (n z))

head-refused : (f : List ℕ) → length f ≤ max_file → (head_file f).status ≢ 0 → read_file f ≡ refused_reading (head_file f).status (head_file f).offset
unfolding read_file head_file
head-refused f short n = by-head f (λ s o e _. rw (content-error f short s o e, e)) (λ h e z. absurd (n z))

-- ---- the head that the head call answered

own-content : (given f : List ℕ) → take 12 given ≡ head_numbers (head_file f).head → length f ≤ max_file → read_given (is_head given) f ≡ read_content f
unfolding head_file
own-content given f own short =
    by-head f (λ s o e _. given-refused _ f short s o e ∙ sym (content-error f short s o e))
    (λ h e _. given-same _ f short h e (is-head-if given (coded_head h) (own ∙ rw e)) ∙ sym (content-body f short h e))

same_numbers : (given f : List ℕ) → take 12 given ≡ head_numbers (head_file f).head → body_list given f ≡ read_file f
unfolding body_list read_file
same_numbers given f own = either_way (length f) max_file (λ h. ap answer_of (own-content given f own h)) (λ h. body-long given f h ∙ too_long f h)

own-head : (f : List ℕ) → body_file (head_file f).head f ≡ read_file f
own-head f = same_numbers (head_numbers (head_file f).head) f refl

composition : (f : List ℕ)
    → read_file f
    ≡ select (leb (length f) max_file)
    (select (eqb (head_file f).status 0) (body_file (head_file f).head f) (refused_reading (head_file f).status (head_file f).offset)) (refused_reading 1 0)
composition f =
    either_way (length f) max_file
    (λ h.
    sym (select-true _ _ (le-leb (length f) max_file h)
    ∙ (elim (ℕ_discrete (head_file f).status 0) [
      | yes z ↦ select-true _ _ (eq-eqb (head_file f).status 0 z) ∙ own-head f
      | no n ↦ select-false _ _ (ne_eqb (head_file f).status 0 n) ∙ sym (head-refused f h n)
    ])))
    (λ h. sym (select-false _ _ (lt-leb (length f) max_file h) ∙ too_long f h))

accepted : (c : Content) → Rules c → head_file (file_of c) ≡ record { status = 0; offset = 0; head = head_of_content c }
unfolding head_file
accepted c r = ap head_reading (head-of c r)

pub head_first : HeadFirst
head_first = record { composition = composition; own-head = own-head; head-refused = head-refused; accepted = accepted }

-- ---- any numbers

other-numbers : (given f : List ℕ) → length f ≤ max_file → (head_file f).status ≡ 0 → take 12 given ≢ head_numbers (head_file f).head → body_list given f ≡ refused_reading 21 0
unfolding body_list head_file
other-numbers given f short z n =
    by-head f (λ s o e k. absurd (k z))
    (λ h e _.
    by-tag (is_head given (coded_head h)) (λ t. absurd (n (is-head-means given (coded_head h) t ∙ rw e)))
    (λ t. ap answer_of (given-other (is_head given) f short h e t)))

short-list : (given f : List ℕ) → length f ≤ max_file → (head_file f).status ≡ 0 → length given < 12 → body_list given f ≡ refused_reading 21 0
short-list given f short z n = other-numbers given f short z (λ e. absurd (omega (arith, ap length e, length-take 12 given)))

other-head : (given : CodedHead) (f : List ℕ) → length f ≤ max_file → (head_file f).status ≡ 0 → given ≢ (head_file f).head → body_file given f ≡ refused_reading 21 0
other-head given f short z n = other-numbers (head_numbers given) f short z (λ e. n (numbers-means given (head_file f).head e))

number : (given f : List ℕ) → (body_list given f).status ≢ 0 → BodyStatus (body_list given f).status
unfolding body_list
number given f n = by (read_given (is_head given) f) refl n
  where
    by : (o : Outcome Content) → read_given (is_head given) f ≡ o → (answer_of o).status ≢ 0 → BodyStatus (answer_of o).status
    by (ok c) e n = absurd (n refl)
    by (error s o) e n = given-refuses (is_head given) f s o e

refused : (given f : List ℕ) → (body_list given f).status ≢ 0 → body_list given f ≡ refused_reading (body_list given f).status (body_list given f).offset
unfolding body_list
refused given f n = by (read_given (is_head given) f) n
  where
    by : (o : Outcome Content) → (answer_of o).status ≢ 0 → answer_of o ≡ refused_reading (answer_of o).status (answer_of o).offset
    by (ok c) n = absurd (n refl)
    by (error s o) n = refl

pub body-list-refusals : BodyListRefusals
body-list-refusals =
    record {
      long = body-long;
      head = body-head;
      other-numbers = other-numbers;
      short-list = short-list;
      same_numbers = same_numbers;
      number = number;
      refused = refused;
    }

-- ---- any head

pub body-refusals : BodyRefusals
body-refusals =
    record {
      long = λ given. body-long (head_numbers given);
      head = λ given. body-head (head_numbers given);
      other-head = other-head;
      same_head = λ given f e. ap (λ (g : CodedHead). body_file g f) e ∙ own-head f;
      number = λ given. number (head_numbers given);
      refused = λ given. refused (head_numbers given);
    }
