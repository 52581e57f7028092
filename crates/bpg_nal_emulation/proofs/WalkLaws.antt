-- The walks: one equation for each case.
use mathlib.Core.Path.{◌≡◌, refl, sym, ◌∙◌, subst}
use mathlib.Core.Bool.{true, false}
use mathlib.Core.List.{List, [], ◌∷◌}
use Prim.Native.Nat.{ℕ, ◌≤◌, ◌<◌}
use native.Mathlib.Omega.{arith}
use borrow.Author.Tests.{eq-eqb, ne_eqb, lt-ltb, le-ltb}
use Rattle.bpg_codec.specs.Lawful.{All}
use Rattle.bpg_codec.proofs.Select.{select-true, select-false}
use Rattle.bpg_nal_units.proofs.Cases.{by-test, by_equal}
use Rattle.bpg_nal_emulation.specs.Emulation.{zeros_after, is_mark, unescape_from, escape_from}

module _ (z b : ℕ) where
  pub zeros-byte : (b ≡ 0 → ⊥) → zeros_after z b ≡ 0
  unfolding zeros_after
  zeros-byte h = select-false _ _ (ne_eqb b 0 h)

  pub zeros-first : b ≡ 0 → z ≡ 0 → zeros_after z b ≡ 1
  unfolding zeros_after
  zeros-first h k = select-true _ _ (eq-eqb b 0 h) ∙ select-true _ _ (eq-eqb z 0 k)

  pub zeros-more : b ≡ 0 → (z ≡ 0 → ⊥) → zeros_after z b ≡ 2
  unfolding zeros_after
  zeros-more h k = select-true _ _ (eq-eqb b 0 h) ∙ select-false _ _ (ne_eqb z 0 k)

  pub zeros-most : zeros_after z b ≤ 2
  zeros-most =
      by_equal b 0
      (λ e. by_equal z 0 (λ f. let g = zeros-first e f in omega arith) (λ f. let g = zeros-more e f in omega arith))
      (λ e. let g = zeros-byte e in omega arith)

  pub mark-yes : z ≡ 2 → b ≡ 3 → is_mark z b ≡ true
  mark-yes e f = rw (eq-eqb z 2 e, eq-eqb b 3 f)

  pub mark-no-zeros : (z ≡ 2 → ⊥) → is_mark z b ≡ false
  mark-no-zeros e = rw (ne_eqb z 2 e)

  pub mark-other : (b ≡ 3 → ⊥) → is_mark z b ≡ false
  mark-other h = by_equal z 2 (λ e. rw (eq-eqb z 2 e) (ne_eqb b 3 h)) mark-no-zeros

module _ (z : ℕ) where
  pub un-end : unescape_from [] z ≡ []
  unfolding unescape_from
  un-end = refl

  pub es-end : (z ≡ 2 → ⊥) → escape_from [] z ≡ []
  unfolding escape_from
  es-end h = select-false _ _ (ne_eqb z 2 h)

  module _ (b : ℕ) (l : List ℕ) where
    pub un-mark : is_mark z b ≡ true → unescape_from (b ∷ l) z ≡ unescape_from l 0
    unfolding unescape_from
    un-mark h = select-true _ _ h

    pub un-byte : is_mark z b ≡ false → unescape_from (b ∷ l) z ≡ b ∷ unescape_from l (zeros_after z b)
    unfolding unescape_from
    un-byte h = select-false _ _ h

    pub es-low : z ≡ 2 → b < 4 → escape_from (b ∷ l) z ≡ 3 ∷ b ∷ escape_from l (zeros_after 0 b)
    unfolding escape_from
    es-low h k = rw (eq-eqb z 2 h) (select-true _ _ (lt-ltb b 4 k))

    pub es-high : z ≡ 2 → 4 ≤ b → escape_from (b ∷ l) z ≡ b ∷ escape_from l (zeros_after z b)
    unfolding escape_from
    es-high h k = rw (eq-eqb z 2 h) (select-false _ _ (le-ltb b 4 k))

    pub es-byte : (z ≡ 2 → ⊥) → escape_from (b ∷ l) z ≡ b ∷ escape_from l (zeros_after z b)
    unfolding escape_from
    es-byte h = rw (ne_eqb z 2 h) (select-false _ _ refl)

pub es-end-open : escape_from [] 2 ≡ 3 ∷ []
unfolding escape_from
es-end-open = select-true _ _ refl

-- undoing adds no byte
pub un-all : (P : ℕ → Type 0) (l : List ℕ) (z : ℕ) → All P l → All P (unescape_from l z)
un-all P [] z h = rw (un-end z) tt
un-all P (b ∷ l) z h =
    by-test (is_mark z b)
    (λ e. subst (All P) (sym (un-mark z b l e)) (un-all P l 0 h.1))
    (λ e. subst (All P) (sym (un-byte z b l e)) (h.0, un-all P l (zeros_after z b) h.1))
