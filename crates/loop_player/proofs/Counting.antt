-- Counting the numbers below n that pass a test.
use mathlib.Core.Path.{◌≡◌, refl}
use mathlib.Core.Bool.{Bool, true, false}
use Prim.Native.Nat.{ℕ, zero, suc, ◌+◌, ◌<◌}
use native.Mathlib.Omega.{arith}
use native.Mathlib.Numerals.{unary_clauses}
use Rattle.loop_player.specs.Requirements.{count_below}

pub count_same : (n : ℕ) (p q : ℕ → Bool) → ((t : ℕ) → t < n → p t ≡ q t) → count_below n p ≡ count_below n q
unfolding count_below
count_same zero p q h = refl
count_same (suc n) p q h = rw (count_same n p q (λ t k. h t (omega arith)), h n (omega arith))

pub count-all : (n : ℕ) (p : ℕ → Bool) → ((t : ℕ) → t < n → p t ≡ true) → count_below n p ≡ n
unfolding count_below
count-all zero p h = refl
count-all (suc n) p h = rw (count-all n p (λ t k. h t (omega arith)), h n (omega arith)) (omega arith)

pub count_none : (n : ℕ) (p : ℕ → Bool) → ((t : ℕ) → t < n → p t ≡ false) → count_below n p ≡ 0
unfolding count_below
count_none zero p h = refl
count_none (suc n) p h = rw (count_none n p (λ t k. h t (omega arith)), h n (omega arith))

pub count_add : (a n : ℕ) (p : ℕ → Bool) → count_below (a + n) p ≡ count_below a p + count_below n (λ t. p (a + t))
unfolding count_below
count_add a zero p = simp unary_clauses
count_add a (suc n) p = let h = count_add a n p in simp unary_clauses (omega arith)
