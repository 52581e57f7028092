-- What writing a reading's numbers answers in each case.
use mathlib.Core.Path.{◌≡◌, refl, sym, ap, ◌∙◌}
use mathlib.Core.Logic.{◌≢◌}
use mathlib.Core.Bool.{Bool, true, false}
use mathlib.Core.List.{List, ◌++◌}
use Prim.Native.Nat.{ℕ, ◌+◌, ◌≤◌, ◌<◌}
use native.Mathlib.Omega.{arith}
use lib.Dec.{leb, eqb}
use lib.ListN.{length, take, drop}
use borrow.Author.Tests.{le-leb, lt-leb, eq-eqb, ne_eqb}
use Rattle.bpg_codec.specs.Bits.{bit}
use Rattle.bpg_codec.specs.Outcome.{Outcome, ok, error}
use Rattle.bpg_codec.specs.Buffer.{written}
use Rattle.bpg_codec.proofs.Buffer.{stored}
use Rattle.bpg_format.specs.declared.answer.Reading.{Reading}
use Rattle.bpg_format.specs.declared.answer.Written.{Written}
use Rattle.bpg_format.specs.Zero.{refused_written}
use Rattle.bpg_format.specs.Records.{used_entries}
use Rattle.bpg_format.specs.Write.{written_answer, written_buffer}
use Rattle.bpg_export_list.specs.Numbers.{fixed_length, list_length, fixed_numbers, entries_numbers, reading_numbers}
use Rattle.bpg_export_list.specs.Calls.{listed}
use Rattle.bpg_export_list.proofs.NumberLaws.{Filled, filled_next, entries-length}

module _ (numbers : List ℕ) (reading : Reading) where
  abbrev used : ℕ
  used = length (used_entries reading.«record»)

  abbrev fixed : List ℕ
  fixed = fixed_numbers reading.«record» reading.coded_width reading.coded_height

  abbrev entries : List ℕ
  entries = entries_numbers (used_entries reading.«record»)

  -- the answer, and the list after it
  abbrev pub Answers : Written → List ℕ → Type 0
  Answers w after = (w ≡ written_answer (listed (length numbers) reading)) × (after ≡ written_buffer (listed (length numbers) reading) numbers)

  by-outcome : (o : Outcome (List ℕ)) → listed (length numbers) reading ≡ o → Answers (written_answer o) (written_buffer o numbers)
  by-outcome o e = (ap written_answer (sym e), ap (λ (x : Outcome (List ℕ)). written_buffer x numbers) (sym e))

  pub file-refused : reading.status ≢ 0 → Answers (refused_written reading.status reading.offset) numbers
  file-refused n = by-outcome (error reading.status reading.offset) (rw (ne_eqb reading.status 0 n))

  module _ (z : reading.status ≡ 0) (n : ℕ) (counted : n ≡ used) where
    pub list-short : length numbers < list_length n → Answers (refused_written 20 0) numbers
    list-short h = by-outcome (error 20 0) (rw (eq-eqb reading.status 0 z, lt-leb (list_length used) (length numbers) (omega arith)))

    pub list_written : list_length n ≤ length numbers → length fixed ≡ fixed_length → (o p : List ℕ) → o ≡ written numbers 0 fixed
        → p ≡ written o fixed_length entries → Answers (record { status = 0; offset = 0; count = list_length n }) p
    list_written h k o p a b =
        let l = reading_numbers reading in
        let f : Filled numbers 0 fixed_length fixed o = record { is = a; ends = omega arith } in
        let w = filled_next f entries (b, entries-length (used_entries reading.«record»)) (omega arith) in
        let e : length l ≡ list_length n = omega (arith, w.ends) in
        let s = by-outcome (ok l) (rw (eq-eqb reading.status 0 z, le-leb (list_length used) (length numbers) (omega arith))) in
        (ap (λ (m : ℕ). record { status = 0; offset = 0; count = m }) (sym e) ∙ s.0, w.is ∙ sym (stored numbers 0 l (omega arith)).0 ∙ front l ∙ s.1)
      where
        front : (l : List ℕ) → take 0 numbers ++ (l ++ drop (0 + length l) numbers) ≡ l ++ drop (length l) numbers
        front l = let k : 0 + length l ≡ length l = omega arith in ap (λ (j : ℕ). l ++ drop j numbers) k

-- a reading whose numbers were written
pub listed_ok : (n : ℕ) (r : Reading) → (written_answer (listed n r)).status ≡ 0 → listed n r ≡ ok (reading_numbers r)
listed_ok n r z = by (eqb r.status 0) (leb (list_length (length (used_entries r.«record»))) n) refl refl
  where
    by : (s t : Bool) → eqb r.status 0 ≡ s → leb (list_length (length (used_entries r.«record»))) n ≡ t → listed n r ≡ ok (reading_numbers r)
    by true true e f = rw (e, f)
    by true false e f = absurd (omega (arith, rw (e, f) at z))
    by false t e f = absurd (omega (arith, ap bit (sym e ∙ eq-eqb r.status 0 (rw e at z))))
