-- The largest sample of a depth, and half of its range.
use mathlib.Core.Path.{◌≡◌, ap}
use Prim.Native.Nat.{ℕ, suc, ◌+◌, ◌-◌, ◌*◌, ◌/◌, ◌^◌, ◌≤◌, ◌<◌}
use native.Mathlib.Nat.{pow-succ'}
use native.Mathlib.Omega.{arith}
use lib.Pow.{pow_pos, pow_mono}
use Rattle.bpg_sample_rules.specs.Rules.{max_sample, half_range}

pub max-suc : (d : ℕ) → max_sample d + 1 ≡ 2 ^ d
unfolding max_sample
max-suc d = let h = pow_pos d in omega arith

pub max-high : (d : ℕ) → d ≤ 14 → max_sample d ≤ 16383
max-high d h = let e = max-suc d in let p : 2 ^ d ≤ 2 ^ 14 = pow_mono h in omega arith

pub max-low : (d : ℕ) → 8 ≤ d → 255 ≤ max_sample d
max-low d h = let e = max-suc d in let p : 2 ^ 8 ≤ 2 ^ d = pow_mono h in omega arith

-- m is odd, and half of the range is the larger half of it
pub half_twice : (d : ℕ) → 0 < d → half_range d + half_range d ≡ max_sample d + 1
half_twice d h =
    let e : suc (d - 1) ≡ d = omega arith in
    let p : 2 ^ suc (d - 1) ≡ 2 * 2 ^ (d - 1) = pow-succ' 2 (d - 1) in
    let q = ap (λ (n : ℕ). 2 ^ n) e in
    omega (arith, max-suc d)

pub half_is : (d : ℕ) → 0 < d → max_sample d / 2 + 1 ≡ half_range d
half_is d h = omega (arith, half_twice d h)
