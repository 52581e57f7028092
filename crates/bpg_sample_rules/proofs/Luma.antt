-- The rule of limited luma: monotone, and at most 255.
use mathlib.Core.Path.{◌≡◌, ◌∙◌}
use Prim.Native.Nat.{ℕ, ◌+◌, ◌-◌, ◌*◌, ◌/◌, ◌≤◌, ◌<◌}
use native.Mathlib.Omega.{arith}
use borrow.Author.Tests.{lt-ltb, le-ltb}
use Rattle.bpg_codec.proofs.Lists.{either_way}
use Rattle.bpg_codec.proofs.Select.{select-true, select-false}
use Rattle.bpg_sample_rules.specs.Nearest.{nearest}
use Rattle.bpg_sample_rules.specs.Rules.{full_luma}

-- the three cases
below : (y : ℕ) → y < 16 → full_luma y ≡ 0
unfolding full_luma
below y h = select-true _ _ (lt-ltb y 16 h)

above : (y : ℕ) → 235 < y → full_luma y ≡ 255
unfolding full_luma
above y h = select-false _ _ (le-ltb y 16 (omega arith)) ∙ select-true _ _ (lt-ltb 235 y h)

between : (y : ℕ) → 16 ≤ y → y ≤ 235 → full_luma y ≡ (2 * ((y - 16) * 255) + 219) / 438
unfolding full_luma nearest
between y h k = select-false _ _ (le-ltb y 16 h) ∙ select-false _ _ (le-ltb 235 y k)

pub luma-at-most : (y : ℕ) → full_luma y ≤ 255
luma-at-most y =
    either_way 16 y (λ h. either_way y 235 (λ k. omega (arith, between y h k)) λ k. omega (arith, above y k)) λ h. omega (arith, below y h)

pub luma-monotone : (y z : ℕ) → y ≤ z → full_luma y ≤ full_luma z
luma-monotone y z l =
    either_way z 235
    (λ k. either_way 16 y (λ h. omega (arith, between y h (omega arith), between z (omega arith) k)) λ h. omega (arith, below y h))
    λ k. omega (arith, above z k, luma-at-most y)
