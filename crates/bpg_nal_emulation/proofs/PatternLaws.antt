-- Patterns: the test, and what the steps of the search for one mean.
use mathlib.Core.Path.{◌≡◌, refl, sym, ap, ◌∙◌}
use mathlib.Core.Bool.{Bool, true, false, not, ◌&&◌}
use mathlib.Core.List.{List, [], ◌∷◌}
use Prim.Native.Nat.{ℕ, zero, suc, ◌+◌, ◌≤◌, ◌<◌}
use native.Mathlib.Nat.{add-zero}
use native.Mathlib.Omega.{arith}
use lib.Dec.{eqb, ltb}
use lib.ListN.{length, drop, get_or, length-drop, get_or-eq_default}
use lib.Seq.{get_or-drop}
use mir.Val.{bool_byte}
use borrow.Author.Tests.{eq-eqb, ne_eqb, le-ltb, ltb-true}
use Rattle.bpg_codec.proofs.Lists.{either_way}
use Rattle.bpg_nal_units.specs.Search.{offset_of, offset_from}
use Rattle.bpg_nal_units.proofs.Cases.{by_equal, one_answer, and-false}
use Rattle.bpg_nal_units.proofs.SearchLaws.{search-found, from-here, from_next, from-two, from-three, from-none}
use Rattle.bpg_nal_emulation.specs.Emulation.{starts_pattern}

-- no pattern, by its third byte or by an earlier one
module _ (l : List ℕ) where
  abbrev first : ℕ
  first = get_or l 0 0

  abbrev second : ℕ
  second = get_or l 1 0

  abbrev third : ℕ
  third = get_or l 2 4

  pub by-third : 4 ≤ third → starts_pattern l ≡ false
  by-third h = rw (le-ltb third 4 h)

  pub by-second : (second ≡ 0 → ⊥) → starts_pattern l ≡ false
  by-second h = and-false (ltb third 4) (eqb second 0 && eqb first 0) (rw (ne_eqb second 0 h))

  pub by_first : (first ≡ 0 → ⊥) → starts_pattern l ≡ false
  by_first h = and-false (ltb third 4) (eqb second 0 && eqb first 0) (and-false (eqb second 0) (eqb first 0) (ne_eqb first 0 h))

  by_length : length l < 3 → starts_pattern l ≡ false
  by_length h = by-third (let z = get_or-eq_default l 4 {n = 2} (omega arith) in omega arith)

-- after 00 00
pub after-zeros : (b : ℕ) (l : List ℕ) → starts_pattern (0 ∷ 0 ∷ b ∷ l) ≡ ltb b 4
after-zeros b l = sided (ltb b 4)
  where
    sided : (t : Bool) → (t && true) ≡ t
    sided true = refl
    sided false = refl

-- a pattern is 00 00 and a byte of 00 to 03
pub pattern-bytes : (l : List ℕ) → starts_pattern l ≡ true → (l ≡ 0 ∷ 0 ∷ get_or l 2 0 ∷ drop 3 l) × (get_or l 2 0 < 4)
pattern-bytes [] e = one_answer e (by_length [] (omega arith))
pattern-bytes (a ∷ []) e = one_answer e (by_length (a ∷ []) (omega arith))
pattern-bytes (a ∷ b ∷ []) e = one_answer e (by_length (a ∷ b ∷ []) (omega arith))
pattern-bytes (suc a ∷ b ∷ c ∷ l) e = one_answer e (by_first (suc a ∷ b ∷ c ∷ l) (λ z. omega arith))
pattern-bytes (zero ∷ suc b ∷ c ∷ l) e = one_answer e (by-second (0 ∷ suc b ∷ c ∷ l) (λ z. omega arith))
pattern-bytes (zero ∷ zero ∷ c ∷ l) e = (refl, ltb-true c 4 (sym (after-zeros c l) ∙ e))

pub pattern-room : (l : List ℕ) → offset_of starts_pattern l < length l → offset_of starts_pattern l + 3 ≤ length l
pattern-room l h =
    either_way (offset_of starts_pattern l + 3) (length l) (λ k. k)
    (λ k. one_answer (search-found starts_pattern l h) (by_length (drop (offset_of starts_pattern l) l) (rw length-drop (omega arith))))

-- ---- by offsets

module _ (d : List ℕ) (i : ℕ) where
  abbrev pattern_from : ℕ
  pattern_from = offset_from starts_pattern d i

  pub first-at : get_or (drop i d) 0 0 ≡ get_or d i 0
  first-at = get_or-drop i d 0 0 ∙ ap (λ (k : ℕ). get_or d k 0) (add-zero i)

  none_first : (get_or d i 0 ≡ 0 → ⊥) → starts_pattern (drop i d) ≡ false
  none_first k = by_first (drop i d) (λ e. k (sym first-at ∙ e))

  -- how many further than one: one, where the second byte is no zero
  abbrev pub step_at : ℕ
  step_at = bool_byte (not (eqb (get_or d (i + 1) 0) 0))

  none-second : (get_or d (i + 1) 0 ≡ 0 → ⊥) → starts_pattern (drop i d) ≡ false
  none-second k = by-second (drop i d) (λ e. k (sym (get_or-drop i d 1 0) ∙ e))

-- what is read within a list does not depend on what stands for the rest
same_byte : (l : List ℕ) (n a b : ℕ) → n < length l → get_or l n a ≡ get_or l n b
same_byte [] n a b h = absurd (omega arith)
same_byte (x ∷ l) zero a b h = refl
same_byte (x ∷ l) (suc n) a b h = same_byte l n a b (omega arith)

module _ (d : List ℕ) (i : ℕ) where
  pub past_end : length d ≤ i + 2 → length d ≡ pattern_from d i
  past_end h = from-none starts_pattern d i (λ k g m. by_length (drop k d) (rw length-drop (omega arith)))

  module _ (h : i + 2 < length d) where
    third_at : get_or (drop i d) 2 4 ≡ get_or d (i + 2) 0
    third_at = get_or-drop i d 2 4 ∙ same_byte d (i + 2) 4 0 h

    pub high-third : 3 < get_or d (i + 2) 0 → pattern_from d i ≡ pattern_from d (i + 3)
    high-third k =
        let two : i + 1 + 1 ≡ i + 2 = omega arith in
        from-three starts_pattern d i (by-third (drop i d) (rw third_at k)) (none-second d (i + 1) (λ e. let f = rw two at e in omega arith)) h
        (none_first d (i + 2) (λ e. omega arith))

    other-second : (get_or d (i + 1) 0 ≡ 0 → ⊥) → pattern_from d i ≡ pattern_from d (i + 2)
    other-second k = from-two starts_pattern d i (none-second d i k) (none_first d (i + 1) k) (omega arith)

    abbrev test_at : Bool
    test_at = ltb (get_or d (i + 2) 0) 4 && (eqb (get_or d (i + 1) 0) 0 && eqb (get_or d i 0) 0)

    test-is : test_at ≡ starts_pattern (drop i d)
    test-is = rw (third_at, get_or-drop i d 1 0, first-at d i)

    pub found_at : test_at ≡ true → i ≡ pattern_from d i
    found_at e = from-here starts_pattern d i (omega arith) (sym test-is ∙ e)

    pub step-on : test_at ≡ false → pattern_from d i ≡ pattern_from d (i + 1 + step_at d i)
    step-on e =
        by_equal (get_or d (i + 1) 0) 0
        (λ z. rw (eq-eqb _ _ z, add-zero (i + 1)) (from_next starts_pattern d i (omega arith) (sym test-is ∙ e)))
        (λ k. let two : i + 1 + 1 ≡ i + 2 = omega arith in rw (ne_eqb _ _ k, two) (other-second k))

-- no pattern begins from a up to b
abbrev pub Past : (d : List ℕ) (a b : ℕ) → Type 0
Past d a b = (a ≤ b) × (pattern_from d a ≡ pattern_from d b)

-- three further, by a high third byte
past-third : (d : List ℕ) (a i : ℕ) → Past d a i → i + 2 < length d → 3 < get_or d (i + 2) 0 → Past d a (i + 3)
past-third d a i p h l = (omega arith, p.1 ∙ high-third d i h l)

-- four third bytes, one after the other
module _ (d : List ℕ) (a i : ℕ) (p : Past d a i) (h : i + 11 < length d) (b2 : 3 < get_or d (i + 2) 0) where
  pub past-3 : Past d a (i + 3)
  past-3 = past-third d a i p (omega arith) b2

  module _ (b5 : 3 < get_or d (i + 5) 0) where
    pub past-6 : Past d a (i + 6)
    past-6 =
        let e : i + 3 + 2 ≡ i + 5 = omega arith in
        let f : i + 3 + 3 ≡ i + 6 = omega arith in
        rw f at (past-third d a (i + 3) past-3 (omega arith) (rw e b5))

    module _ (b8 : 3 < get_or d (i + 8) 0) where
      pub past-9 : Past d a (i + 9)
      past-9 =
          let e : i + 6 + 2 ≡ i + 8 = omega arith in
          let f : i + 6 + 3 ≡ i + 9 = omega arith in
          rw f at (past-third d a (i + 6) past-6 (omega arith) (rw e b8))

      pub past-12 : 3 < get_or d (i + 11) 0 → Past d a (i + 12)
      past-12 b11 =
          let e : i + 9 + 2 ≡ i + 11 = omega arith in
          let f : i + 9 + 3 ≡ i + 12 = omega arith in
          rw f at (past-third d a (i + 9) past-9 (omega arith) (rw e b11))
