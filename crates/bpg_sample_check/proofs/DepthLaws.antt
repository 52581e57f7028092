-- The largest sample of a depth, by a shift.
use mathlib.Core.Path.{◌≡◌, sym, ap, ◌∙◌}
use mathlib.Core.Bool.{true, ◌&&◌}
use Prim.Native.Nat.{ℕ, ◌+◌, ◌*◌, ◌%◌, ◌^◌, ◌≤◌, ◌<◌, min}
use lib.Dec.{leb}
use borrow.Author.Tests.{leb-true}
use native.Mathlib.Nat.{one-mul, mod-eq_of_lt}
use native.Mathlib.Omega.{arith}
use lib.Pow.{pow-lt}
use Rattle.bpg_sample_rules.specs.Rules.{max_sample}
use Rattle.bpg_sample_rules.proofs.Depths.{max-suc}
use Rattle.bpg_sample_check.proofs.EveryLaws.{and_right}

-- 1 shifted, at 32 bits
pub shifted : (d : ℕ) → d ≤ 16 → (1 * 2 ^ d) % 2 ^ 32 ≡ max_sample d + 1
shifted d h =
    let p : 2 ^ d < 2 ^ 32 = pow-lt {i = d} {j = 32} (omega arith) in
    ap (λ (n : ℕ). n % 2 ^ 32) (one-mul (2 ^ d)) ∙ mod-eq_of_lt p ∙ sym (max-suc d)

-- what is answered for a depth that is known
pub max-known : (d : ℕ) {v : ℕ} → (leb 8 d && leb d 14) ≡ true → v ≡ max_sample (min d 16) → v ≡ max_sample d
max-known d k e =
    let h : d ≤ 14 = leb-true d 14 (and_right (leb 8 d) (leb d 14) k) in
    let s : min d 16 ≡ d = omega arith in
    e ∙ ap max_sample s
