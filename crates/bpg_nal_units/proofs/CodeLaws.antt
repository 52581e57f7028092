-- The first start code: what the steps of the search for it mean.
use mathlib.Core.Path.{◌≡◌, sym, ap, ◌∙◌}
use mathlib.Core.Bool.{true, false, ◌&&◌}
use mathlib.Core.List.{List, [], ◌∷◌}
use Prim.Native.Nat.{ℕ, zero, suc, ◌+◌, ◌≤◌, ◌<◌}
use native.Mathlib.Nat.{add-zero}
use native.Mathlib.Omega.{arith}
use lib.Dec.{eqb}
use lib.ListN.{length, take, drop, get_or, length-drop, get_or-eq_default}
use lib.Seq.{get_or-drop, get_or-take}
use borrow.Author.Tests.{eq-eqb, ne_eqb}
use Rattle.bpg_codec.proofs.Lists.{either_way}
use Rattle.bpg_nal_units.specs.Units.{starts_code, code_offset, code_from}
use Rattle.bpg_nal_units.proofs.Cases.{by_equal, one_answer, and-false}
use Rattle.bpg_nal_units.proofs.SearchLaws.{search-found, from-here, from_next, from-three, from-none}

-- no start code, by its third byte or by an earlier one
module _ (l : List ℕ) where
  abbrev first : ℕ
  first = get_or l 0 0

  abbrev second : ℕ
  second = get_or l 1 0

  abbrev third : ℕ
  third = get_or l 2 0

  pub by-third : (third ≡ 1 → ⊥) → starts_code l ≡ false
  by-third h = rw (ne_eqb third 1 h)

  pub by-second : (second ≡ 0 → ⊥) → starts_code l ≡ false
  by-second h = and-false (eqb third 1) (eqb second 0 && eqb first 0) (rw (ne_eqb second 0 h))

  pub by_first : (first ≡ 0 → ⊥) → starts_code l ≡ false
  by_first h = and-false (eqb third 1) (eqb second 0 && eqb first 0) (and-false (eqb second 0) (eqb first 0) (ne_eqb first 0 h))

  by_all : third ≡ 1 → second ≡ 0 → first ≡ 0 → starts_code l ≡ true
  by_all a b c = rw (eq-eqb third 1 a, eq-eqb second 0 b, eq-eqb first 0 c)

  -- fewer than three bytes hold none
  pub by_length : length l < 3 → starts_code l ≡ false
  by_length h = by-third (λ e. let z = get_or-eq_default l 0 {n = 2} (omega arith) in omega arith)

-- a start code is 00 00 01
pub code-bytes : (l : List ℕ) → starts_code l ≡ true → l ≡ 0 ∷ 0 ∷ 1 ∷ drop 3 l
code-bytes [] e = one_answer e (by_length [] (omega arith))
code-bytes (a ∷ []) e = one_answer e (by_length (a ∷ []) (omega arith))
code-bytes (a ∷ b ∷ []) e = one_answer e (by_length (a ∷ b ∷ []) (omega arith))
code-bytes (suc a ∷ b ∷ c ∷ l) e = one_answer e (by_first (suc a ∷ b ∷ c ∷ l) (λ z. omega arith))
code-bytes (zero ∷ suc b ∷ c ∷ l) e = one_answer e (by-second (0 ∷ suc b ∷ c ∷ l) (λ z. omega arith))
code-bytes (zero ∷ zero ∷ c ∷ l) e =
    by_equal c 1 (λ z. ap (λ (x : ℕ). 0 ∷ 0 ∷ x ∷ l) z) (λ z. one_answer e (by-third (0 ∷ 0 ∷ c ∷ l) z))

-- and has room for its three bytes
pub code-room : (l : List ℕ) → code_offset l < length l → code_offset l + 3 ≤ length l
code-room l h =
    either_way (code_offset l + 3) (length l) (λ k. k)
    (λ k. one_answer (search-found starts_code l h) (by_length (drop (code_offset l) l) (rw length-drop (omega arith))))

-- ---- by offsets

module _ (d : List ℕ) (i : ℕ) where
  first-at : get_or (drop i d) 0 0 ≡ get_or d i 0
  first-at = get_or-drop i d 0 0 ∙ ap (λ (k : ℕ). get_or d k 0) (add-zero i)

  none_first : (get_or d i 0 ≡ 0 → ⊥) → starts_code (drop i d) ≡ false
  none_first k = by_first (drop i d) (λ e. k (sym first-at ∙ e))

  none-second : (get_or d (i + 1) 0 ≡ 0 → ⊥) → starts_code (drop i d) ≡ false
  none-second k = by-second (drop i d) (λ e. k (sym (get_or-drop i d 1 0) ∙ e))

  none-third : (get_or d (i + 2) 0 ≡ 1 → ⊥) → starts_code (drop i d) ≡ false
  none-third k = by-third (drop i d) (λ e. k (sym (get_or-drop i d 2 0) ∙ e))

module _ (d : List ℕ) (i : ℕ) where
  pub past_end : length d ≤ i + 2 → length d ≡ code_from d i
  past_end h = from-none starts_code d i (λ k g m. by_length (drop k d) (rw length-drop (omega arith)))

  module _ (h : i + 2 < length d) where
    -- a third byte that is not 0 begins no start code, nor is it the second of one
    skip_at : starts_code (drop i d) ≡ false → (get_or d (i + 2) 0 ≡ 0 → ⊥) → code_from d i ≡ code_from d (i + 3)
    skip_at e z =
        let two : i + 1 + 1 ≡ i + 2 = omega arith in
        from-three starts_code d i e (none-second d (i + 1) (λ g. z (rw two at g))) h (none_first d (i + 2) z)

    pub high-third : 1 < get_or d (i + 2) 0 → code_from d i ≡ code_from d (i + 3)
    high-third k = skip_at (none-third d i (λ e. omega arith)) (λ e. omega arith)

    pub zero-third : get_or d (i + 2) 0 ≡ 0 → code_from d i ≡ code_from d (i + 1)
    zero-third k = from_next starts_code d i (omega arith) (none-third d i (λ e. omega arith))

    pub other-second : (get_or d (i + 2) 0 ≡ 0 → ⊥) → (get_or d (i + 1) 0 ≡ 0 → ⊥) → code_from d i ≡ code_from d (i + 3)
    other-second z k = skip_at (none-second d i k) z

    pub other-first : (get_or d (i + 2) 0 ≡ 0 → ⊥) → (get_or d i 0 ≡ 0 → ⊥) → code_from d i ≡ code_from d (i + 3)
    other-first z k = skip_at (none_first d i k) z

    pub found_at : get_or d (i + 2) 0 ≡ 1 → get_or d (i + 1) 0 ≡ 0 → get_or d i 0 ≡ 0 → i ≡ code_from d i
    found_at a b c =
        from-here starts_code d i (omega arith) (by_all (drop i d) (get_or-drop i d 2 0 ∙ a) (get_or-drop i d 1 0 ∙ b) (first-at d i ∙ c))

-- a front of the bytes has the start codes that lie in it
pub code-front : (l : List ℕ) (k m : ℕ) → k + 3 ≤ m → starts_code (drop k (take m l)) ≡ starts_code (drop k l)
code-front l k m h =
    rw (
      get_or-drop k (take m l) 2 0,
      get_or-drop k (take m l) 1 0,
      get_or-drop k (take m l) 0 0,
      get_or-take m l (k + 2) 0 (omega arith),
      get_or-take m l (k + 1) 0 (omega arith),
      get_or-take m l (k + 0) 0 (omega arith),
      get_or-drop k l 2 0,
      get_or-drop k l 1 0,
      get_or-drop k l 0 0,
    )
