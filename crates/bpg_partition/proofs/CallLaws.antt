-- What the call computes from a survey is the partition.
use mathlib.Core.Path.{◌≡◌, sym, ap, ◌∙◌}
use mathlib.Core.Bool.{true}
use mathlib.Core.List.{List}
use Prim.Native.Nat.{ℕ, ◌+◌, ◌-◌, ◌≤◌, ◌<◌}
use native.Mathlib.Omega.{arith}
use lib.ListN.{length, get_or}
use Rattle.std.specs.Prelude.{Ok, Err, IsOk}
use Rattle.bpg_refusal.specs.declared.Refusal.{Refusal}
use Rattle.bpg_refusal.specs.Numbers.{reason_number}
use Rattle.bpg_read_head.specs.declared.head.Head.{Head as PlacedHead}
use Rattle.bpg_codec.specs.Outcome.{error}
use Rattle.bpg_codec.proofs.Tokens.{all-bytes}
use Rattle.bpg_format.specs.Content.{Content}
use Rattle.bpg_format.specs.Read.{Head}
use Rattle.bpg_format.specs.Records.{data_start}
use Rattle.bpg_read_survey.specs.Given.{read_given}
use Rattle.bpg_read_survey.proofs.GivenLaws.{none-given}
use Rattle.bpg_read_survey.specs.declared.rest.RestSurvey.{RestSurvey}
use Rattle.bpg_read_survey.specs.declared.given.Surveyed.{Surveyed}
use Rattle.bpg_read_survey.specs.Surveys.{survey_parts, file_survey}
use Rattle.bpg_read_survey.proofs.FileRead.{FileRead, survey-refused, err-said, survey-read, head_there, starts, file-length}
use Rattle.bpg_partition.specs.Partitions.{head_count, entry_head_count, payload_count, data_count, refused_partition, counts, partition_of, partition_answer}
use Rattle.bpg_partition.proofs.CountLaws.{head-start, block-count, data-start}

-- ---- a file was surveyed

-- it was accepted
pub file_read : (file : List ℕ) → ((i : ℕ) → get_or file i 0 < 256) → (s : Surveyed) → survey_parts s ≡ file_survey file (read_given (λ _. true) file)
    → (x : RestSurvey) → s.rest ≡ Ok x → (p : PlacedHead) → s.head ≡ Ok p → FileRead file p x
file_read file h s e x is p head_is = (survey-read (λ _. true) file s e x is (all-bytes file h) p head_is).0

pub head-read : (file : List ℕ) (s : Surveyed) → survey_parts s ≡ file_survey file (read_given (λ _. true) file) → (x : RestSurvey) → s.rest ≡ Ok x → IsOk s.head
head-read file s e x is = head_there (λ _. true) file s e x is

-- it was refused
pub partition-refused : (file : List ℕ) (s o : ℕ) → error s o ≡ (file_survey file (read_given (λ _. true) file)).1 → refused_partition s o ≡ partition_answer file
unfolding partition_answer
partition-refused file s o e = ap partition_of (sym (survey-refused (λ _. true) file s o e) ∙ none-given file)

pub partition-err : (file : List ℕ) (s : Surveyed) → survey_parts s ≡ file_survey file (read_given (λ _. true) file) → (r : Refusal) → s.rest ≡ Err r
    → refused_partition (reason_number r.reason) r.offset.0 ≡ partition_answer file
partition-err file s e r is = partition-refused file _ _ (err-said (λ _. true) file s e r is)

counts-cong : {h h1 e e1 p p1 x x1 d d1 : ℕ} → h ≡ h1 → e ≡ e1 → p ≡ p1 → x ≡ x1 → d ≡ d1 → counts h e p x d ≡ counts h1 e1 p1 x1 d1
counts-cong h e p x d = rw (h, e, p, x, d)

-- `payloads` is the sum that the call has
module _ {file : List ℕ} {head : PlacedHead} {rest : RestSurvey} (f : FileRead file head rest) (payloads : ℕ) (sum : payloads ≡ payload_count f.content.extensions) where
  abbrev c : Content
  c = f.content

  end_is : head.end.0 ≡ head_count c
  end_is = sym (starts f) ∙ sym (head-start c)

  block-is : head.extension_length ≡ entry_head_count c.extensions + payload_count c.extensions
  block-is = ap (λ (h : Head). h.extension_length) f.heads ∙ block-count c.extensions

  data_is : rest.headers.next.0 ≡ data_start c
  data_is = omega (arith, ap (λ (r : RestSurvey). r.headers.next.0) f.survey, file-length f)

  pub payloads-within : payloads ≤ head.extension_length
  payloads-within = omega (arith, sum, block-is)

  pub block-before : head.end.0 + head.extension_length ≤ rest.headers.next.0
  block-before = omega (arith, end_is, block-is, data_is, data-start c, block-count c.extensions)

  pub partition-is : counts head.end.0 (head.extension_length - payloads) payloads (rest.headers.next.0 - (head.end.0 + head.extension_length))
      (length file - rest.headers.next.0) ≡ partition_answer file
  unfolding partition_answer data_count
  partition-is =
      counts-cong end_is (omega (arith, sum, block-is)) sum (omega (arith, end_is, block-is, data_is, data-start c, block-count c.extensions))
      (omega (arith, data_is, file-length f)) ∙ ap partition_of (sym f.read)
