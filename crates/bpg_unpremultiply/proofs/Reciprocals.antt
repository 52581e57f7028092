-- Division by a number through its reciprocal: a product and a shift.
use mathlib.Core.Path.{◌≡◌, sym, ap, ◌∙◌}
use mathlib.Core.Logic.{⊎_elim}
use Prim.Native.Nat.{ℕ, ◌+◌, ◌-◌, ◌*◌, ◌/◌, ◌%◌, ◌^◌, ◌≤◌, ◌<◌, min, max}
use native.Mathlib.Nat.{add-mul, mul-add, mul_comm, mul_assoc, zero-mul, mul-le-mul, mul-le-mul_left, mul-le-mul_right, lt_of_mul-lt-mul_right, div-add-mod', mod-lt, div-eq_of_lt-le, eq-zero-or-pos}
use native.Mathlib.Omega.{arith}
use Rattle.bpg_sample_rules.specs.Rules.{unpremultiplied}
use Rattle.bpg_unpremultiply.specs.Reciprocal.{reciprocal_of}
use Rattle.bpg_unpremultiply.proofs.Quotients.{dividend, quotient, quotient-high}

-- n = q · a + t is divided by a, and v is a reciprocal of a at s: v · a is s and a little more
module _ (s n a v q t e : ℕ) (inv : v * a ≡ s + e) (small : e ≤ a) (parts : q * a + t ≡ n) (rest : t < a) (k : n * a < s) where
  low : q * s ≤ n * v
  low =
      let x : q * s ≤ q * (v * a) = mul-le-mul_left q (omega arith) in
      let y : q * (v * a) ≡ q * a * v = ap (λ (z : ℕ). q * z) (mul_comm v a) ∙ sym (mul_assoc q a v) in
      let z : q * a * v ≤ n * v = mul-le-mul_right v (omega arith) in
      omega arith

  high : n * v < (q + 1) * s
  high =
      let x : n * v * a ≡ n * s + n * e = mul_assoc n v a ∙ ap (λ (z : ℕ). n * z) inv ∙ mul-add n s e in
      let y : n * e ≤ n * a = mul-le-mul_left n small in
      let u = add-mul q 1 a in
      let w : (n + 1) * s ≤ (q + 1) * a * s = mul-le-mul_right s (omega arith) in
      let o = add-mul n 1 s in
      let p : (q + 1) * a * s ≡ (q + 1) * s * a = mul_assoc (q + 1) a s ∙ ap (λ (z : ℕ). (q + 1) * z) (mul_comm a s) ∙ sym (mul_assoc (q + 1) s a) in
      lt_of_mul-lt-mul_right a {m = n * v} {n = (q + 1) * s} (omega arith)

  exact : n * v / s ≡ q
  exact = div-eq_of_lt-le {k = q} s {m = n * v} low high

module _ (m r a : ℕ) (hm : m ≤ 16383) (ha : a ≤ m) where
  pub dividend-high : dividend m r a ≤ 16383 * 16384
  dividend-high = let x : min r a * m ≤ 16383 * 16383 = mul-le-mul {n₂ = 16383} {m₂ = 16383} (omega arith) hm in omega arith

  module _ (h : 0 < a) where
    least : max 1 a ≡ a
    least = omega arith

    -- the reciprocal times a is 2^44 and at most a more
    over : reciprocal_of a * a ≡ 2 ^ 44 + (a - 2 ^ 44 % max 1 a)
    over =
        let x = div-add-mod' (2 ^ 44) (max 1 a) in
        let y = add-mul (2 ^ 44 / max 1 a) 1 a in
        let l : 2 ^ 44 % max 1 a < max 1 a = mod-lt (2 ^ 44) (omega arith) in
        let z = ap (λ (b : ℕ). 2 ^ 44 / max 1 a * b) least in
        omega arith

    product : dividend m r a * a < 2 ^ 44
    product =
        let x : dividend m r a * a ≤ 16383 * 16384 * 16383 = mul-le-mul {n₂ = 16383 * 16384} {m₂ = 16383} dividend-high (omega arith) in
        omega arith

    some-high : dividend m r a * reciprocal_of a ≤ 2 ^ 58
    some-high =
        let n = dividend m r a in
        let x = high (2 ^ 44) n a (reciprocal_of a) (n / a) (n % a) (a - 2 ^ 44 % max 1 a) over (omega arith) (div-add-mod' n a) (mod-lt n h) product in
        let y = quotient-high m r a h in
        let z : (n / a + 1) * 2 ^ 44 ≤ 16384 * 2 ^ 44 = mul-le-mul_right {n = 16384} (2 ^ 44) (omega arith) in
        omega arith

    -- the product and the shift
    pub shifted : dividend m r a * reciprocal_of a / 2 ^ 44 ≡ unpremultiplied m r a
    shifted =
        let n = dividend m r a in
        exact (2 ^ 44) n a (reciprocal_of a) (n / a) (n % a) (a - 2 ^ 44 % max 1 a) over (omega arith) (div-add-mod' n a) (mod-lt n h) product
        ∙ sym (quotient m r a h)

  -- the product fits 64 bits, also where a is 0
  pub product_high : dividend m r a * reciprocal_of a ≤ 2 ^ 58
  product_high =
      ⊎_elim
      (λ (e : a ≡ 0).
      let d : dividend m r a ≡ 0 = (let z : min r a * m ≡ 0 = ap (λ (b : ℕ). b * m) (omega arith) ∙ zero-mul m in omega arith) in
      let x : dividend m r a * reciprocal_of a ≡ 0 = ap (λ (b : ℕ). b * reciprocal_of a) d ∙ zero-mul (reciprocal_of a) in
      omega arith)
      (λ (h : 0 < a). some-high h)
      (eq-zero-or-pos a)
