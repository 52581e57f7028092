-- Numbers that fit their fields, and the entries of a list, one at a time.
use mathlib.Core.Path.{◌≡◌, refl, sym, ap, ◌∙◌}
use mathlib.Core.Bool.{Bool, true, false, ◌&&◌, and_assoc}
use mathlib.Core.List.{List, [], ◌∷◌, ◌++◌}
use Prim.Native.Nat.{ℕ, zero, suc, ◌+◌, ◌*◌, ◌-◌, ◌≤◌, ◌<◌}
use native.Mathlib.Numerals.{add-one}
use native.Mathlib.Omega.{arith}
use lib.Dec.{leb}
use lib.ListN.{length, take, drop, get_or, replicate, length-append, length-drop, length-replicate, drop_of_length-le}
use lib.Seq.{take-length, drop-cons}
use Rattle.bpg_format.specs.Limits.{max_entries}
use Rattle.bpg_format.specs.declared.record.Entry.{Entry}
use Rattle.bpg_format.specs.Zero.{zero_entry}
use Rattle.bpg_format.specs.Records.{pad_entries}
use Rattle.bpg_import_list.specs.Fields.{entry_at, list_entries}
use Rattle.bpg_import_list.specs.Calls.{word, within, words}

-- ---- numbers that fit

module _ (fields l : List ℕ) (k : ℕ) where
  pub within_end : (s : Bool) → length fields ≤ k → (s && within (drop k fields) (drop k l)) ≡ s
  unfolding within
  within_end true h = rw (drop_of_length-le fields h)
  within_end false h = refl

  pub within-next : (s : Bool) → k < length fields → k < length l
      → (s && within (drop k fields) (drop k l)) ≡ ((s && leb (get_or l k 0) (get_or fields k 0)) && within (drop (k + 1) fields) (drop (k + 1) l))
  unfolding within
  within-next s h j =
      rw (add-one, drop-cons fields k 0, drop-cons l k 0) (sym (and_assoc s (leb (get_or l k 0) (get_or fields k 0)) (within (drop (suc k) fields) (drop (suc k) l))))

module _ (l : List ℕ) (k : ℕ) where
  pub words-end : (s : Bool) → length l ≤ k → (s && words (drop k l)) ≡ s
  unfolding words
  words-end true h = rw (drop_of_length-le l h)
  words-end false h = refl

  pub words-next : (s : Bool) → k < length l → (s && words (drop k l)) ≡ ((s && leb (get_or l k 0) word) && words (drop (k + 1) l))
  unfolding words
  words-next s h = rw (add-one, drop-cons l k 0) (sym (and_assoc s (leb (get_or l k 0) word) (words (drop (suc k) l))))

-- ---- the entries of a list

pub entries-more : (l : List ℕ) (at k : ℕ) → list_entries l at (suc k) ≡ list_entries l at k ++ (entry_at l (at + 4 * k) ∷ [])
unfolding list_entries
entries-more l at zero = ap (λ (n : ℕ). entry_at l n ∷ []) (omega arith)
entries-more l at (suc k) =
    let n : at + 4 + 4 * k ≡ at + 4 * suc k = omega arith in
    ap (λ (es : List Entry). entry_at l at ∷ es) (entries-more l (at + 4) k ∙ ap (λ (m : ℕ). list_entries l (at + 4) k ++ (entry_at l m ∷ [])) n)

pub entries-count : (l : List ℕ) (at n : ℕ) → length (list_entries l at n) ≡ n
unfolding list_entries
entries-count l at zero = refl
entries-count l at (suc n) = ap suc (entries-count l (at + 4) n)

pub pad-length : (es : List Entry) → length es ≤ max_entries → length (pad_entries es) ≡ max_entries
pad-length es h = omega (arith, length-append es (replicate (max_entries - length es) zero_entry), length-replicate (max_entries - length es) zero_entry)

-- the rest of a list as a slice up to its end
pub to_end : (l : List ℕ) (p : ℕ) → take (length l - p) (drop p l) ≡ drop p l
to_end l p = rw (← length-drop p l) (take-length (drop p l))
