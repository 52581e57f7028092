-- A search: one equation for each case, and what the steps of the code mean.
use mathlib.Core.Path.{◌≡◌, refl, sym, ap, ◌∙◌}
use mathlib.Core.Bool.{Bool, true, false}
use mathlib.Core.List.{List, [], ◌∷◌}
use Prim.Native.Nat.{ℕ, zero, suc, ◌+◌, ◌-◌, ◌≤◌, ◌<◌}
use native.Mathlib.Nat.{le_refl}
use native.Mathlib.Omega.{arith}
use lib.ListN.{length, drop, get_or}
use Rattle.bpg_codec.proofs.Lists.{drop-next, either_way}
use Rattle.bpg_codec.proofs.Select.{select-true, select-false}
use Rattle.bpg_nal_units.specs.Search.{offset_of, offset_from}
use Rattle.bpg_nal_units.proofs.Cases.{by-test}

module _ (test : List ℕ → Bool) where
  pub search-end : offset_of test [] ≡ 0
  unfolding offset_of
  search-end = refl

  module _ (b : ℕ) (l : List ℕ) where
    pub search-here : test (b ∷ l) ≡ true → offset_of test (b ∷ l) ≡ 0
    unfolding offset_of
    search-here e = select-true _ _ e

    pub search-later : test (b ∷ l) ≡ false → offset_of test (b ∷ l) ≡ suc (offset_of test l)
    unfolding offset_of
    search-later e = select-false _ _ e

  pub search-most : (l : List ℕ) → offset_of test l ≤ length l
  search-most [] = rw search-end (le_refl 0)
  search-most (b ∷ l) =
      by-test (test (b ∷ l)) (λ e. rw (search-here b l e) (omega arith)) (λ e. rw (search-later b l e) (let h = search-most l in omega arith))

  -- what is found passes
  pub search-found : (l : List ℕ) → offset_of test l < length l → test (drop (offset_of test l) l) ≡ true
  search-found [] h = absurd (omega arith)
  search-found (b ∷ l) h =
      by-test (test (b ∷ l)) (λ e. rw (search-here b l e) e)
      (λ e. rw (search-later b l e) (search-found l (let f = search-later b l e in omega arith)))

  -- and nothing before it does
  pub search-none : (l : List ℕ) (k : ℕ) → k < offset_of test l → test (drop k l) ≡ false
  search-none [] k h = absurd (let e = search-end in omega arith)
  search-none (b ∷ l) zero h = by-test (test (b ∷ l)) (λ e. absurd (let f = search-here b l e in omega arith)) (λ e. e)
  search-none (b ∷ l) (suc k) h =
      by-test (test (b ∷ l)) (λ e. absurd (let f = search-here b l e in omega arith))
      (λ e. search-none l k (let f = search-later b l e in omega arith))

  -- ---- by offsets

  from_end : (d : List ℕ) (i : ℕ) → length d ≤ i → length d ≡ offset_from test d i
  from_end d i h = omega arith

  module _ (d : List ℕ) (i : ℕ) (h : i < length d) where
    pub from-here : test (drop i d) ≡ true → i ≡ offset_from test d i
    from-here e =
        let s = drop-next d i 0 h in
        rw (s, search-here (get_or d i 0) (drop (i + 1) d) (rw s at e)) (omega arith)

    pub from_next : test (drop i d) ≡ false → offset_from test d i ≡ offset_from test d (i + 1)
    from_next e =
        let s = drop-next d i 0 h in
        rw (s, search-later (get_or d i 0) (drop (i + 1) d) (rw s at e)) (omega arith)

  module _ (d : List ℕ) (i : ℕ) (a : test (drop i d) ≡ false) (b : test (drop (i + 1) d) ≡ false) where
    pub from-two : i + 1 < length d → offset_from test d i ≡ offset_from test d (i + 2)
    from-two h =
        let e : i + 1 + 1 ≡ i + 2 = omega arith in
        from_next d i (omega arith) a ∙ from_next d (i + 1) h b ∙ ap (offset_from test d) e

    pub from-three : i + 2 < length d → test (drop (i + 2) d) ≡ false → offset_from test d i ≡ offset_from test d (i + 3)
    from-three h c =
        let e : i + 2 + 1 ≡ i + 3 = omega arith in
        from-two (omega arith) ∙ from_next d (i + 2) h c ∙ ap (offset_from test d) e

  -- none of n places that are left passes
  none_of : (n : ℕ) (d : List ℕ) (i : ℕ) → i + n ≡ length d → ((k : ℕ) → i ≤ k → k < length d → test (drop k d) ≡ false) → length d ≡ offset_from test d i
  none_of zero d i h f = from_end d i (omega arith)
  none_of (suc n) d i h f =
      none_of n d (i + 1) (omega arith) (λ k g. f k (omega arith)) ∙ sym (from_next d i (omega arith) (f i (omega arith) (omega arith)))

  pub from-none : (d : List ℕ) (i : ℕ) → ((k : ℕ) → i ≤ k → k < length d → test (drop k d) ≡ false) → length d ≡ offset_from test d i
  from-none d i f = either_way (length d) i (from_end d i) (λ h. none_of (length d - i) d i (omega arith) f)
