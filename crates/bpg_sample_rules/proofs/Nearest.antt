-- What `nearest` means, and how it is computed.
use mathlib.Core.Path.{◌≡◌, sym, ap, ◌∙◌}
use Prim.Native.Nat.{ℕ, ◌+◌, ◌*◌, ◌/◌, ◌≤◌, ◌<◌}
use native.Mathlib.Nat.{mul_comm, mul_assoc, mul-add, add-mul, mul-div-le, lt-mul-div-succ, div-eq_of_lt-le, div-div-eq-div-mul, div-lt_iff_lt-mul}
use native.Mathlib.Omega.{arith}
use Rattle.bpg_sample_rules.specs.Nearest.{nearest, IsNearest}

twice-times : (q b : ℕ) → 2 * q * b ≡ q * (2 * b)
twice-times q b = ap (λ (n : ℕ). n * b) (mul_comm 2 q) ∙ mul_assoc q 2 b

pub nearest-is : (a b : ℕ) → 0 < b → IsNearest a b (nearest a b)
unfolding nearest
nearest-is a b h =
    let q = (2 * a + b) / (2 * b) in
    let e = twice-times q b in
    let e' = mul_comm (2 * b) q in
    let low : 2 * b * q ≤ 2 * a + b = mul-div-le (2 * a + b) (2 * b) in
    let high : 2 * a + b < 2 * b * (q + 1) = lt-mul-div-succ (2 * a + b) (omega arith) in
    let open' = mul-add (2 * b) q 1 in
    record { above = omega arith; below = omega arith; halves-up = λ t. omega arith }

pub nearest-only : (a b q : ℕ) → 0 < b → IsNearest a b q → q ≡ nearest a b
unfolding nearest
nearest-only a b q h n =
    let e = twice-times q b in
    let e' = add-mul q 1 (2 * b) in
    sym (div-eq_of_lt-le (2 * b) (omega (arith, n.above)) (omega (arith, n.below, n.halves-up)))

-- half of the divisor is added, and the division rounds down: nothing is doubled
pub nearest-floor : (a b : ℕ) → nearest a b ≡ (a + b / 2) / b
unfolding nearest
nearest-floor a b =
    let e : (2 * a + b) / 2 ≡ a + b / 2 = omega arith in
    sym (div-div-eq-div-mul (2 * a + b) 2 b) ∙ ap (λ (n : ℕ). n / b) e

pub nearest-at-most : (a m : ℕ) → 0 < m → a ≤ m * m → nearest a m ≤ m
nearest-at-most a m h k =
    let e = add-mul m 1 m in
    let l : (a + m / 2) / m < m + 1 = (div-lt_iff_lt-mul h).1 (omega arith) in
    rw nearest-floor (omega arith)

-- what is divided exactly
pub nearest-whole : (r m : ℕ) → 0 < m → nearest (r * m) m ≡ r
nearest-whole r m h =
    let e = add-mul r 1 m in
    nearest-floor (r * m) m ∙ div-eq_of_lt-le {k = r} m {m = r * m + m / 2} (omega arith) (omega arith)
