-- What canonicalizing answers: the reader's refusals, then what writing the canonical record over the file answers.
use mathlib.Core.Path.{◌≡◌, refl, sym, ap, ◌∙◌, subst}
use mathlib.Core.Logic.{◌≢◌}
use mathlib.Core.List.{List}
use Prim.Native.Nat.{ℕ, ◌≤◌}
use lib.Dec.{leb}
use lib.ListN.{length}
use borrow.Author.Tests.{le-leb}
use Rattle.bpg_codec.specs.Outcome.{Outcome, ok, error, ◌>>=◌, guard}
use Rattle.bpg_codec.specs.Lawful.{All, Byte}
use Rattle.bpg_codec.proofs.Answers.{refused-error, accepted-value}
use Rattle.bpg_codec.proofs.Outcome.{unbind}
use Rattle.bpg_format.specs.Limits.{max_file}
use Rattle.bpg_format.specs.declared.record.Record.{Record}
use Rattle.bpg_format.specs.declared.answer.Reading.{Reading}
use Rattle.bpg_format.specs.declared.answer.Written.{Written}
use Rattle.bpg_format.specs.Zero.{refused_written}
use Rattle.bpg_format.specs.Content.{Content}
use Rattle.bpg_format.specs.Syntax.{file_of}
use Rattle.bpg_format.specs.Rules.{Rules}
use Rattle.bpg_format.specs.Read.{read_content, ReadingStatus}
use Rattle.bpg_format.specs.Records.{record_of, answer_of, read_file}
use Rattle.bpg_format.specs.Write.{sized_file, write_outcome, written_answer, written_buffer, write_file, write_buffer, write_size, check_record}
use Rattle.bpg_format.specs.Pictures.{canonical_content, canonical_bytes, canonical_outcome, canonical_file, canonical_buffer, canonical_size}
use Rattle.bpg_format.proofs.ReadingLaws.{read_is}
use Rattle.bpg_format.proofs.ReadingRefusals.{content-refuses}
use Rattle.bpg_format.proofs.CanonicalLaws.{canonical-rules}
use Rattle.bpg_format.proofs.Writing.{written-full, write-checks}
use Rattle.bpg_canonical_record.specs.Records.{canonical_record}
use Rattle.bpg_canonical.proofs.ContentLaws.{canonical-content, canonical-writable}

-- ---- writing the canonical record over its file

module _ (c : Content) (r : Rules c) where
  abbrev rec : Record
  rec = canonical_record (record_of c)

  passes : check_record rec (file_of c) ≡ ok tt
  passes =
      let w = written-full (length (canonical_bytes c)) rec (file_of c) (canonical-writable c r) in
      unbind {P = check_record rec (file_of c) ≡ ok tt} (check_record rec (file_of c)) _ (sym (write-checks (length (canonical_bytes c)) rec (file_of c)) ∙ w) λ _ e _. e

  short : length (canonical_bytes c) ≤ max_file
  unfolding canonical_bytes
  short = (canonical-rules c r).size

  written-canonical : (capacity : ℕ) → write_outcome capacity rec (file_of c)
      ≡ (guard (leb (length (canonical_bytes c)) capacity) 20 0 >>= λ _. ok (canonical_bytes c))
  unfolding sized_file canonical_bytes
  written-canonical capacity =
      write-checks capacity rec (file_of c) ∙ rw passes (ap (sized_file capacity) (canonical-content c r) ∙ rw (le-leb (length (file_of (canonical_content c))) max_file short))

-- ---- the calls

module _ (file : List ℕ) (reading : Reading) (read : reading ≡ read_file file) where
  is-answer : reading ≡ answer_of (read_content file)
  unfolding read_file
  is-answer = read

  refused-outcome : reading.status ≢ 0 → (capacity : ℕ) → canonical_outcome capacity file ≡ error reading.status reading.offset
  unfolding canonical_outcome
  refused-outcome n capacity =
      refused-error answer_of (λ r. r.status) (λ _. refl) (λ _ _. refl) (read_content file) reading is-answer n λ s o w.
      rw w (sym (ap (λ (x : Reading). error x.status x.offset) (is-answer ∙ ap answer_of w)))

  outcome : All Byte file → reading.status ≡ 0 → (capacity : ℕ) → write_outcome capacity (canonical_record reading.«record») file ≡ canonical_outcome capacity file
  unfolding canonical_outcome
  outcome bytes z capacity =
      accepted-value answer_of (λ r. r.status) (λ _. refl) (λ _ _. refl) (read_content file) reading is-answer z
      (λ s o e k. subst ReadingStatus k (content-refuses file s o e))
      (λ c e.
      let known = read_is file bytes c e in
      ap (λ (x : Reading). write_outcome capacity (canonical_record x.«record») file) (is-answer ∙ ap answer_of e)
      ∙ ap (write_outcome capacity (canonical_record (record_of c))) known.1
      ∙ written-canonical c known.0 capacity
      ∙ rw e)

  -- ---- the size

  pub size-refused : reading.status ≢ 0 → refused_written reading.status reading.offset ≡ canonical_size file
  unfolding canonical_size
  size-refused n = ap written_answer (sym (refused-outcome n max_file))

  pub size-answers : All Byte file → reading.status ≡ 0 → (w : Written) → w ≡ write_size (canonical_record reading.«record») file → w ≡ canonical_size file
  unfolding canonical_size write_size
  size-answers bytes z w e = e ∙ ap written_answer (outcome bytes z max_file)

  -- ---- writing into a buffer

  module _ (out : List ℕ) where
    pub refused : reading.status ≢ 0 → (refused_written reading.status reading.offset ≡ canonical_file file out) × (out ≡ canonical_buffer file out)
    unfolding canonical_file canonical_buffer
    refused n = let e = refused-outcome n (length out) in (ap written_answer (sym e), ap (λ (o : Outcome (List ℕ)). written_buffer o out) (sym e))

    pub canonicalized : All Byte file → reading.status ≡ 0 → (w : Written) (after : List ℕ) → let r = canonical_record reading.«record» in
        w ≡ write_file r file out → after ≡ write_buffer r file out → (w ≡ canonical_file file out) × (after ≡ canonical_buffer file out)
    unfolding canonical_file canonical_buffer write_file write_buffer
    canonicalized bytes z w after e b = let o = outcome bytes z (length out) in (e ∙ ap written_answer o, b ∙ ap (λ (x : Outcome (List ℕ)). written_buffer x out) o)
