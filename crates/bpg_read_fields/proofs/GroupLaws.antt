-- A group of fields that is absent is one step of the loop.
use mathlib.Core.Path.{◌≡◌, sym, ap, ◌∙◌}
use mathlib.Core.Bool.{Bool, true, not, ◌&&◌, ◌||◌}
use mathlib.Core.List.{List}
use Prim.Native.Nat.{ℕ, zero, suc, ◌+◌, ◌-◌, ◌≤◌, ◌<◌}
use native.Mathlib.Nat.{le_of_suc-le-suc, not-suc-le-zero}
use native.Mathlib.Omega.{arith}
use lib.Dec.{T, eqb, leb, ltb, eqb→eq, leb→le, ltb→lt}
use lib.ListN.{length, get_or, set, length-set}
use lib.Seq.{get_or-set_other}
use borrow.Author.Tests.{eqb-false, ne_eqb, lt-leb, le-ltb}
use Rattle.bpg_codec.specs.Select.{select}
use Rattle.bpg_codec.proofs.Select.{is_false, and_left, and_right}
use Rattle.bpg_format.proofs.WriteLaws.{or-test}
use Rattle.bpg_read_fields.specs.Table.{gates, after_group, no_values, values_from}
use Rattle.bpg_read_fields.proofs.LoopLaws.{all-absent}

-- ---- rules of the table's rows, each by one test that antt computes

abbrev all_below : ℕ → (ℕ → Bool) → Bool
all_below zero f = true
all_below (suc n) f = f 0 && all_below n (λ k. f (suc k))

below : (n : ℕ) (f : ℕ → Bool) → T (all_below n f) → (k : ℕ) → k < n → T (f k)
below zero f t k h = absurd (not-suc-le-zero h)
below (suc n) f t zero h = and_left (f 0) (all_below n (λ k. f (suc k))) t
below (suc n) f t (suc k) h = below n (λ k. f (suc k)) (and_right (f 0) (all_below n (λ k. f (suc k))) t) k (le_of_suc-le-suc h)

abbrev gate : ℕ → ℕ
gate k = get_or gates k 0

first-zero : (k : ℕ) → k < 25 → get_or no_values k 0 ≡ 0
first-zero k h = eqb→eq _ _ (below 25 (λ (k : ℕ). eqb (get_or no_values k 0) 0) tt k h)

-- the step is forward, and not to field 15, before which field 14 has the same gate
pub forward : (k : ℕ) → k < 25 → (k < after_group (gate k)) × (after_group (gate k) ≤ 25) × (after_group (gate k) ≡ 15 → ⊥)
unfolding select
forward k h = (
  ltb→lt _ _ (below 25 (λ (k : ℕ). ltb k (after_group (gate k))) tt k h),
  leb→le _ _ (below 25 (λ (k : ℕ). leb (after_group (gate k)) 25) tt k h),
  eqb-false _ _ (is_false _ (below 25 (λ (k : ℕ). not (eqb (after_group (gate k)) 15)) tt k h)),
)

-- a field i of those that the step from k passes over has k's gate, or one of those fields as its gate; unless k is always there, or is 15
abbrev passed : (k i : ℕ) → Bool
passed k i = eqb (gate k) 25 || (eqb k 15 || (ltb i k || (leb (after_group (gate k)) i || (eqb (gate i) (gate k) || (leb k (gate i) && ltb (gate i) 25)))))

all-passed : (k i : ℕ) → k < 25 → i < 25 → T (passed k i)
unfolding select
all-passed k i h j = below 25 (passed k) (below 25 (λ (k : ℕ). all_below 25 (passed k)) tt k h) i j

-- ---- the loop's values

-- before field k those from k on are as at first; and before field 15 its gate, which field 14 has too, is 1
abbrev pub Before : (k : ℕ) (v : List ℕ) → Type 0
Before k v = (length v ≡ 26) × ((i : ℕ) → k ≤ i → get_or v i 0 ≡ get_or no_values i 0) × (k ≡ 15 → get_or v 13 0 ≡ 1)

module _ (k : ℕ) (v : List ℕ) (h : k < 25) (b : Before k v) where
  pub before-next : (x : ℕ) → get_or v (gate k) 0 ≡ 1 → Before (k + 1) (set v k x)
  before-next x g = (
    length-set v k x ∙ b.0,
    λ i a. get_or-set_other v k i x 0 (omega arith) ∙ b.1 i (omega arith),
    λ e. let f : 14 ≡ k = omega arith in get_or-set_other v k 13 x 0 (omega arith) ∙ ap (λ (m : ℕ). get_or v (gate m) 0) f ∙ g,
  )

  abbrev end : ℕ
  end = after_group (gate k)

  pub before-end : Before end v
  before-end = (b.0, λ i a. b.1 i (omega (arith, (forward k h).0)), λ e. absurd ((forward k h).2 e))

  module _ (off : get_or v (gate k) 0 ≡ 1 → ⊥) where
    gate-off : (i : ℕ) → k ≤ i → i < end → i < 25 → get_or v (gate i) 0 ≡ 1 → ⊥
    gate-off i a c j q =
        let some = or-test _ _ (all-passed k i h j) (ne_eqb (gate k) 25 λ e. off (ap (λ (g : ℕ). get_or v g 0) e ∙ b.1 25 (omega arith))) in
        let first = or-test _ _ some (ne_eqb k 15 λ e. off (ap (λ (m : ℕ). get_or v (gate m) 0) e ∙ b.2 e)) in
        let inside = or-test _ _ (or-test _ _ first (le-ltb i k a)) (lt-leb end i c) in
        let other = or-test _ _ inside (ne_eqb (gate i) (gate k) λ e. off (ap (λ (g : ℕ). get_or v g 0) (sym e) ∙ q)) in
        let low : k ≤ gate i = leb→le _ _ (and_left (leb k (gate i)) (ltb (gate i) 25) other) in
        let high : gate i < 25 = ltb→lt _ _ (and_right (leb k (gate i)) (ltb (gate i) 25) other) in
        omega (arith, sym (b.1 (gate i) low ∙ first-zero (gate i) high) ∙ q)

    pub group-absent : (bits : List Bool) (p : ℕ) → values_from bits (25 - k) v p ≡ values_from bits (25 - end) v p
    group-absent bits p =
        all-absent bits v p end (end - k) k (omega (arith, (forward k h).0)) λ i a c.
        let j : i < 25 = omega (arith, (forward k h).1) in
        (j, gate-off i a c j, b.1 i a ∙ first-zero i j)
