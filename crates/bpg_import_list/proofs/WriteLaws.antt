-- What writing from a list answers: the list's refusal, or as its record is written.
use mathlib.Core.Path.{◌≡◌, sym, ap, ◌∙◌}
use mathlib.Core.List.{List}
use Prim.Native.Nat.{ℕ}
use lib.ListN.{length}
use Rattle.bpg_codec.specs.Outcome.{Outcome, ok, error}
use Rattle.bpg_format.specs.Limits.{max_file}
use Rattle.bpg_format.specs.declared.record.Record.{Record}
use Rattle.bpg_format.specs.declared.answer.Written.{Written}
use Rattle.bpg_format.specs.Zero.{refused_written}
use Rattle.bpg_format.specs.Write.{write_outcome, written_answer, written_buffer, write_file, write_buffer, write_size}
use Rattle.bpg_import_list.specs.Fields.{list_record}
use Rattle.bpg_import_list.specs.Calls.{read_list, list_outcome, write_answer, write_bytes, size_answer}

module _ (numbers source : List ℕ) where
  refused-list : (capacity n : ℕ) → read_list numbers ≡ error n 0 → list_outcome capacity numbers source ≡ error n 0
  unfolding list_outcome
  refused-list capacity n e = rw e

  of-record : (capacity : ℕ) → read_list numbers ≡ ok (list_record numbers) → (r : Record) → r ≡ list_record numbers
      → list_outcome capacity numbers source ≡ write_outcome capacity r source
  unfolding list_outcome
  of-record capacity is r c = rw (is, c)

  pub size-refused : (n : ℕ) → read_list numbers ≡ error n 0 → refused_written n 0 ≡ size_answer numbers source
  unfolding size_answer
  size-refused n e = ap written_answer (sym (refused-list max_file n e))

  pub record-size : read_list numbers ≡ ok (list_record numbers) → (r : Record) → r ≡ list_record numbers → write_size r source ≡ size_answer numbers source
  unfolding size_answer write_size
  record-size is r c = ap written_answer (sym (of-record max_file is r c))

  module _ (out : List ℕ) where
    -- the answer, and the buffer after it
    abbrev Answers : Written → List ℕ → Type 0
    Answers w after = (w ≡ write_answer numbers source out) × (after ≡ write_bytes numbers source out)

    of-outcome : (o : Outcome (List ℕ)) → list_outcome (length out) numbers source ≡ o → Answers (written_answer o) (written_buffer o out)
    unfolding write_answer write_bytes
    of-outcome o e = (ap written_answer (sym e), ap (λ (x : Outcome (List ℕ)). written_buffer x out) (sym e))

    pub list-refused : (n : ℕ) → read_list numbers ≡ error n 0 → Answers (refused_written n 0) out
    list-refused n e = of-outcome (error n 0) (refused-list (length out) n e)

    pub as-record : read_list numbers ≡ ok (list_record numbers) → (r : Record) → r ≡ list_record numbers → (w : Written) (after : List ℕ)
        → w ≡ write_file r source out → after ≡ write_buffer r source out → Answers w after
    unfolding write_file write_buffer
    as-record is r c w after p q =
        let a = of-outcome (write_outcome (length out) r source) (of-record (length out) is r c) in
        (p ∙ a.0, q ∙ a.1)
