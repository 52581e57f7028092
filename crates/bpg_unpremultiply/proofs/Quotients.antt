-- The rule as one division, whose quotient is at most m: the smaller of colour and alpha is divided.
use mathlib.Core.Path.{◌≡◌, refl, sym, ◌∙◌}
use Prim.Native.Nat.{ℕ, ◌+◌, ◌*◌, ◌/◌, ◌≤◌, ◌<◌, min}
use native.Mathlib.Nat.{add-mul, mul_comm, mul-le-mul_right, min-eq_left, min-eq_right, div-lt_iff_lt-mul, le-div_iff_mul-le, div-eq_of_lt-le, le_of_lt}
use native.Mathlib.Omega.{arith}
use borrow.Author.Tests.{eq-eqb, ne_eqb}
use Rattle.bpg_codec.proofs.Lists.{either_way}
use Rattle.bpg_codec.proofs.Select.{select-true, select-false}
use Rattle.bpg_sample_rules.specs.Rules.{unpremultiplied}
use Rattle.bpg_sample_rules.proofs.Nearest.{nearest-floor}

-- what is divided by a
abbrev pub dividend : (m r a : ℕ) → ℕ
dividend m r a = min r a * m + a / 2

module _ (m r a : ℕ) (h : 0 < a) where
  -- the quotient of a colour up to alpha is at most m, and that of one from alpha on is at least m
  high : r ≤ a → (r * m + a / 2) / a ≤ m
  high k =
      let t = mul-le-mul_right m k in
      let e = add-mul m 1 a in
      let f = mul_comm a m in
      let l : (r * m + a / 2) / a < m + 1 = (div-lt_iff_lt-mul h).1 (omega arith) in
      omega arith

  low : a ≤ r → m ≤ (r * m + a / 2) / a
  low k =
      let t = mul-le-mul_right m k in
      let f = mul_comm a m in
      (le-div_iff_mul-le h).1 (omega arith)

  full : (a * m + a / 2) / a ≡ m
  full =
      let e = add-mul m 1 a in
      let f = mul_comm a m in
      div-eq_of_lt-le {k = m} a {m = a * m + a / 2} (omega arith) (omega arith)

  pub quotient : unpremultiplied m r a ≡ dividend m r a / a
  unfolding unpremultiplied
  quotient =
      select-false _ _ (ne_eqb a 0 (omega arith))
      ∙ either_way r a
      (λ k. rw (nearest-floor (r * m) a, min-eq_left k) (min-eq_right (high k)))
      λ k. rw (nearest-floor (r * m) a, min-eq_right (le_of_lt k)) (min-eq_left (low (le_of_lt k)) ∙ sym full)

pub quotient-high : (m r a : ℕ) → 0 < a → dividend m r a / a ≤ m
quotient-high m r a h = high m (min r a) a h (omega arith)

pub transparent : (m r : ℕ) → unpremultiplied m r 0 ≡ m
unfolding unpremultiplied
transparent m r = select-true _ _ (eq-eqb 0 0 refl)
