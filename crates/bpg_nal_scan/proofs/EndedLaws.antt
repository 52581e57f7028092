-- What stands after two zero bytes, by the first byte from there on that is not 0.
use Rattle.std.proofs.Common.{◌≡◌, sym, ◌∙◌, ℕ, ◌+◌, ◌-◌, ◌≤◌, ◌<◌, Bool, not, ◌==◌, nat_lt, List, length, take, drop, get_or, Some, None, position, arith, take_all, length-drop, get_or-drop}
use Rattle.std.specs.List.{position_or_len}
use Rattle.std.proofs.lemmas.List.Recursion.{is_position_or_len}
use borrow.Author.Tests.{eq-eqb, ne_eqb, le-leb, lt-leb, ltb-true, ltb-false}
use Rattle.bpg_codec.proofs.Select.{select-true, select-false}
use Rattle.bpg_nal_units.specs.Search.{offset_of, offset_from}
use Rattle.bpg_nal_units.proofs.Cases.{by-test}
use Rattle.bpg_nal_units.proofs.SearchLaws.{search-end, search-here, search-later}
use Rattle.bpg_nal_scan.specs.Scans.{not_zero, kept_cut, ended_at}

abbrev other : ℕ → Bool
other b = not (b == 0)

offset-is : (l : List ℕ) → offset_of not_zero l ≡ position_or_len other l
offset-is =
    is_position_or_len (offset_of not_zero) other (search-end not_zero)
    (λ b l. by-test (other b) (λ e. rw (search-here not_zero b l e, e)) (λ e. rw (search-later not_zero b l e, e) (omega arith)))

module _ (l : List ℕ) where
  none-other : None ≡ position other l → length l ≤ offset_of not_zero l
  none-other e =
      by-test (nat_lt (position_or_len other l) (length l)) (λ t. let f = rw t at e in cc) (λ f. let n = offset-is l in omega (arith, ltb-false _ _ f))

  some-other : (k : ℕ) → Some k ≡ position other l → (offset_of not_zero l ≡ k) × (k < length l)
  some-other k e =
      by-test (nat_lt (position_or_len other l) (length l))
      (λ t. let s : position_or_len other l ≡ k = (let f = rw t at e in cc) in let n = offset-is l in (n ∙ s, omega (arith, ltb-true _ _ t)))
      (λ t. let f = rw t at e in cc)

module _ (d : List ℕ) (i : ℕ) (h : i + 2 ≤ length d) where
  abbrev rest : List ℕ
  rest = take (length d - (i + 2)) (drop (i + 2) d)

  rest-is : rest ≡ drop (i + 2) d
  rest-is = take_all _ _ (rw length-drop (omega arith))

  pub ended-last : None ≡ position other rest → kept_cut i (length d) ≡ ended_at d i
  ended-last e =
      let n = none-other (drop (i + 2) d) (rw rest-is at e) in
      let p : offset_from not_zero d (i + 2) ≡ length d = omega (arith, length-drop (i + 2) d) in
      rw p (sym (select-true _ _ (le-leb _ _ (omega arith))))

  module _ (k : ℕ) (e : Some k ≡ position other rest) where
    place : offset_from not_zero d (i + 2) ≡ i + 2 + k
    place = let s = some-other (drop (i + 2) d) k (rw rest-is at e) in omega (arith, length-drop (i + 2) d)

    within : i + 2 + k < length d
    within = let s = some-other (drop (i + 2) d) k (rw rest-is at e) in omega (arith, length-drop (i + 2) d)

    byte : get_or rest k 0 ≡ get_or d (i + 2 + k) 0
    byte = rw rest-is (get_or-drop (i + 2) d k 0)

    pub ended-code : get_or rest k 0 ≡ 1 → kept_cut i (i + k) ≡ ended_at d i
    ended-code f =
        let s : i + 2 + k - 2 ≡ i + k = omega arith in
        rw (place, select-false _ _ (lt-leb _ _ within), select-true _ _ (eq-eqb _ _ (sym byte ∙ f)), s)

    pub ended-other : (get_or rest k 0 ≡ 1 → ⊥) → None ≡ ended_at d i
    ended-other f = rw (place, select-false _ _ (lt-leb _ _ within), select-false _ _ (ne_eqb _ _ (λ g. f (byte ∙ g))))
