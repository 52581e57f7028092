-- Division by M = 2^depth − 1, to the nearest, by two shifts.
use mathlib.Core.Path.{◌≡◌, sym, ap, ◌∙◌}
use Prim.Native.Nat.{ℕ, ◌+◌, ◌*◌, ◌/◌, ◌%◌, ◌^◌, ◌≤◌, ◌<◌}
use native.Mathlib.Nat.{add_assoc, mul-add, add-mul, div-eq_of_lt-le, div-add-mod', mod-lt, div-le_self, mul-le-mul, mul-le-mul_right, le_trans}
use native.Mathlib.Omega.{arith}
use Rattle.bpg_codec.proofs.Lists.{either_way}
use Rattle.bpg_sample_rules.specs.Rules.{max_sample, times_white}
use Rattle.bpg_sample_rules.proofs.Nearest.{nearest-floor, nearest-at-most}
use Rattle.bpg_sample_rules.proofs.Depths.{max-suc, max-low, max-high}

plus-two : (a n : ℕ) → (a + 1 + 1) * n ≡ a * n + 2 * n
plus-two a n = ap (λ (k : ℕ). k * n) (add_assoc a 1 1) ∙ add-mul a 2 n

-- x / m from two divisions by m + 1, for x + 1 below (m + 1) · (m + 1), where x is a · (m + 1) + b: the quotient is a, or a + 1
module _ (x m a b : ℕ) (h : 0 < m) (parts : a * (m + 1) + b ≡ x) (small : b < m + 1) (k : x + 1 < (m + 1) * (m + 1)) where
  same-quotient : a + b < m → (x + a + 1) / (m + 1) ≡ x / m
  same-quotient l =
      let e0 = mul-add a m 1 in
      let e1 = add-mul a 1 (m + 1) in
      let e2 = add-mul a 1 m in
      div-eq_of_lt-le {k = a} (m + 1) {m = x + a + 1} (omega arith) (omega arith) ∙ sym (div-eq_of_lt-le {k = a} m {m = x} (omega arith) (omega arith))

  less : a < m + 1
  less = either_way (m + 1) a (λ l. absurd (let t = mul-le-mul_right (m + 1) l in omega arith)) λ l. l

  sum : a + b < m + m
  sum =
      either_way (m + m) (a + b)
      (λ l.
      let e : a ≡ m = omega (arith, less) in
      let t = ap (λ (n : ℕ). n * (m + 1)) e in
      let u = add-mul m 1 (m + 1) in
      absurd (omega (arith, less)))
      λ l. l

  next-quotient : m ≤ a + b → (x + a + 1) / (m + 1) ≡ x / m
  next-quotient l =
      let e0 = mul-add a m 1 in
      let e1 = add-mul a 2 (m + 1) in
      let e2 = add-mul a 2 m in
      let e3 = add-mul a 1 (m + 1) in
      let e4 = add-mul a 1 m in
      let f1 = plus-two a (m + 1) in
      let f2 = plus-two a m in
      let s = sum in
      div-eq_of_lt-le {k = a + 1} (m + 1) {m = x + a + 1} (omega arith) (omega arith)
      ∙ sym (div-eq_of_lt-le {k = a + 1} m {m = x} (omega arith) (omega arith))

by_next : (x m : ℕ) → 0 < m → x + 1 < (m + 1) * (m + 1) → (x + x / (m + 1) + 1) / (m + 1) ≡ x / m
by_next x m h k =
    let a = x / (m + 1) in
    let b = x % (m + 1) in
    let p = div-add-mod' x (m + 1) in
    let s : b < m + 1 = mod-lt x (omega arith) in
    either_way m (a + b) (next-quotient x m a b h p s k) (same-quotient x m a b h p s k)

-- what the code computes: r and w are samples of a depth, half is M / 2
module _ (d r w half : ℕ) (low : 8 ≤ d) (high : d ≤ 14) (p : r ≤ max_sample d) (q : w ≤ max_sample d) (e : half ≡ max_sample d / 2) where
  abbrev sum_of : ℕ
  sum_of = r * w + half

  product_high : r * w ≤ 16383 * 16383
  product_high = mul-le-mul (le_trans p (max-high d high)) (le_trans q (max-high d high))

  half_high : half ≤ 8191
  half_high = omega (arith, e, max-high d high)

  -- no step is above 2^32
  pub sum-high : sum_of ≤ 16383 * 16383 + 8191
  sum-high = omega (arith, product_high, half_high)

  pub twice-high : sum_of + sum_of / 2 ^ d ≤ 2 * (16383 * 16383 + 8191)
  twice-high = omega (arith, sum-high, div-le_self sum_of (2 ^ d))

  pub shifts : (sum_of + sum_of / 2 ^ d + 1) / 2 ^ d ≡ times_white (max_sample d) r w
  unfolding times_white
  shifts =
      let m = max_sample d in
      let l = max-low d low in
      let s : r * w ≤ m * m = mul-le-mul p q in
      let open1 = mul-add (m + 1) m 1 in
      let open2 = add-mul m 1 m in
      let fits : r * w + m / 2 + 1 < (m + 1) * (m + 1) = omega arith in
      rw (e, nearest-floor (r * w) m, ← max-suc d) (by_next (r * w + m / 2) m (omega arith) fits)

  pub white-high : times_white (max_sample d) r w ≤ 16383
  unfolding times_white
  white-high = le_trans (nearest-at-most (r * w) (max_sample d) (let l = max-low d low in omega arith) (mul-le-mul p q)) (max-high d high)
