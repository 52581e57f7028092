-- The answers of a buffer's files, stored one after the other.
use mathlib.Core.Path.{◌≡◌, refl, sym, ap, ◌∙◌}
use mathlib.Core.List.{List, ◌∷◌, ◌++◌, map, append_assoc, append-nil}
use Prim.Native.Nat.{ℕ, ◌+◌, ◌-◌, ◌≤◌, ◌<◌}
use native.Mathlib.Nat.{zero-add, add-sub_cancel_left}
use native.Mathlib.Numerals.{add-one}
use native.Mathlib.Omega.{arith}
use lib.ListN.{length, take, drop, get_or, set, length-set, drop_of_length-le, length-take}
use lib.Seq.{take_all, take-suc-set, drop-drop}
use Rattle.bpg_codec.proofs.Lists.{drop-next}
use Rattle.bpg_format.specs.Records.{read_file}
use Rattle.bpg_reader.specs.Calls.{verdict_of}
use Rattle.bpg_batch.specs.Batches.{files, sum, statuses_of, offsets_of, Complete}
use Rattle.bpg_batch.proofs.SumLaws.{sum-next}
use Rattle.bpg_batch.proofs.OffsetLaws.{offset-inside}

module _ (answer : List ℕ → ℕ) (lengths buffer : List ℕ) where
  -- the answers so far, and those of the files that are left, are all answers
  abbrev Stored : (list : List ℕ) (start k : ℕ) → Type 0
  Stored list start k = take k list ++ map answer (files (drop k lengths) (drop start buffer)) ≡ map answer (files lengths buffer)

  module _ (list : List ℕ) (start k : ℕ) (e : length list ≡ length lengths) (s : Stored list start k) where
    abbrev next : List ℕ
    next = take (get_or lengths k 0) (drop start buffer)

    left-next : k < length lengths → files (drop k lengths) (drop start buffer) ≡ next ∷ files (drop (k + 1) lengths) (drop (start + get_or lengths k 0) buffer)
    unfolding files
    left-next h = rw (drop-next lengths k 0 h, drop-drop)

    store-next : k < length lengths → Stored (set list k (answer next)) (start + get_or lengths k 0) (k + 1)
    store-next h = rw (add-one, take-suc-set list k (answer next) (omega arith), append_assoc) (rw (left-next h, add-one) at s)

    store-ends : length lengths ≤ k → list ≡ map answer (files lengths buffer)
    unfolding files
    store-ends h = sym (take_all k list (omega arith)) ∙ sym (append-nil _) ∙ (rw (drop_of_length-le lengths {i = k} h) at s)

-- the loop's invariant: k files have been read, and the next one starts at `start`
pub record ReadSoFar (buffer lengths statuses offsets : List ℕ) (start k : ℕ) : Type 0 where
  pub within : k ≤ length lengths
  pub as-many-statuses : length statuses ≡ length lengths
  pub as-many-offsets : length offsets ≡ length lengths
  pub adds-up : start + sum (drop k lengths) ≡ length buffer
  pub first-statuses : Stored (λ f. (read_file f).status) lengths buffer statuses start k
  pub first-offsets : Stored (λ f. (read_file f).offset) lengths buffer offsets start k

pub read_none : (buffer lengths statuses offsets : List ℕ) → Complete buffer lengths statuses offsets → ReadSoFar buffer lengths statuses offsets 0 0
read_none buffer lengths statuses offsets c =
    record {
      within = omega arith;
      as-many-statuses = c.as-many-statuses;
      as-many-offsets = c.as-many-offsets;
      adds-up = zero-add (sum lengths) ∙ c.adds-up;
      first-statuses = refl;
      first-offsets = refl;
    }

module _ {buffer lengths statuses offsets : List ℕ} {start k : ℕ} (s : ReadSoFar buffer lengths statuses offsets start k) where
  pub all_read : length lengths ≤ k → (statuses ≡ statuses_of (files lengths buffer)) × (offsets ≡ offsets_of (files lengths buffer))
  all_read h = (
    store-ends (λ f. (read_file f).status) lengths buffer statuses start k s.as-many-statuses s.first-statuses h,
    store-ends (λ f. (read_file f).offset) lengths buffer offsets start k s.as-many-offsets s.first-offsets h,
  )

  module _ (h : k < length lengths) where
    pub file-inside : start + get_or lengths k 0 ≤ length buffer
    file-inside = omega (arith, s.adds-up, sum-next lengths k h)

    -- the file as a part of the buffer
    module _ (r : ℕ × ℕ) (e : r ≡ verdict_of (read_file (take (start + get_or lengths k 0 - start) (drop start buffer)))) where
      verdict-is : r ≡ verdict_of (read_file (take (get_or lengths k 0) (drop start buffer)))
      verdict-is = e ∙ ap (λ (n : ℕ). verdict_of (read_file (take n (drop start buffer)))) (add-sub_cancel_left start (get_or lengths k 0))

      pub offset-fits : r.1 ≤ get_or lengths k 0
      offset-fits =
          let f = take (get_or lengths k 0) (drop start buffer) in
          omega (arith, ap (λ (x : ℕ × ℕ). x.1) verdict-is, offset-inside f, length-take (get_or lengths k 0) (drop start buffer))

      pub read_next : ReadSoFar buffer lengths (set statuses k r.0) (set offsets k r.1) (start + get_or lengths k 0) (k + 1)
      read_next =
          record {
            within = omega arith;
            as-many-statuses = length-set statuses k r.0 ∙ s.as-many-statuses;
            as-many-offsets = length-set offsets k r.1 ∙ s.as-many-offsets;
            adds-up = omega (arith, s.adds-up, sum-next lengths k h);
            first-statuses = rw verdict-is (store-next (λ f. (read_file f).status) lengths buffer statuses start k s.as-many-statuses s.first-statuses h);
            first-offsets = rw verdict-is (store-next (λ f. (read_file f).offset) lengths buffer offsets start k s.as-many-offsets s.first-offsets h);
          }
