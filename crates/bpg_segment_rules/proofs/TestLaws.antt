-- Laws of tests as equations.
use mathlib.Core.Path.{◌≡◌, refl}
use mathlib.Core.Bool.{Bool, true, false, ◌&&◌}
use Prim.Native.Nat.{ℕ}
use native.Mathlib.Omega.{arith}

pub false-not-true : ◌≡◌ {A = Bool} false true → ⊥
false-not-true e = let z : ◌≡◌ {A = ℕ} 0 1 = cc in omega arith

pub by_cases {ℓ} : {P : Type ℓ} (b : Bool) → (b ≡ true → P) → (b ≡ false → P) → P
by_cases true f g = f refl
by_cases false f g = g refl

-- both sides of a test
pub and_split : (a b : Bool) → a && b ≡ true → (a ≡ true) × (b ≡ true)
and_split true b e = (refl, e)
and_split false b e = absurd (false-not-true e)

pub and-false : (a b c : Bool) → b ≡ false → a && (b && c) ≡ false
and-false true b c e = rw e
and-false false b c e = refl
