-- Milliseconds as ticks.
use mathlib.Core.Path.{◌≡◌, ap, ◌∙◌}
use mathlib.Core.Logic.{⊎_elim}
use Prim.Native.Nat.{ℕ, ◌+◌, ◌*◌, ◌/◌, ◌≤◌, ◌<◌}
use native.Mathlib.Nat.{mul-le-mul_right, div-zero, eq-zero-or-pos, div-mul-le_self, lt-div-mul-add}
use lib.Ieee.Nearest.{div_mono}
use native.Mathlib.Omega.{arith}
use Rattle.loop_player.specs.Player.{ticks_of}

-- more milliseconds, no fewer ticks
pub ticks-in-order : (a b num den : ℕ) → a ≤ b → ticks_of a num den ≤ ticks_of b num den
unfolding ticks_of
ticks-in-order a b num den h =
    ⊎_elim
    (λ z.
    let x : a * den / (1000 * num) ≡ 0 = ap (λ (k : ℕ). a * den / k) z ∙ div-zero (a * den) in
    let y : b * den / (1000 * num) ≡ 0 = ap (λ (k : ℕ). b * den / k) z ∙ div-zero (b * den) in
    omega arith)
    (λ p. div_mono (a * den) (1000 * num) (b * den) (1000 * num) p p (mul-le-mul_right (1000 * num) (mul-le-mul_right den h)))
    (eq-zero-or-pos (1000 * num))

-- the ticks are the whole part of ms·den / (1000·num)
pub ticks-whole : (ms num den : ℕ) → 0 < num
    → (ticks_of ms num den * (1000 * num) ≤ ms * den) × (ms * den < ticks_of ms num den * (1000 * num) + 1000 * num)
unfolding ticks_of
ticks-whole ms num den h = (div-mul-le_self (ms * den) (1000 * num), lt-div-mul-add {a = ms * den} {b = 1000 * num} (omega arith))
