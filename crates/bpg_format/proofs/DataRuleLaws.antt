-- The test on the data passes exactly when the data keeps its rules.
use mathlib.Core.Path.{◌≡◌, refl, subst}
use mathlib.Core.Bool.{Bool, true, false, not, ◌&&◌, ◌||◌}
use mathlib.Core.List.{List, [], ◌∷◌}
use mathlib.Core.Logic.{◌≢◌}
use Prim.Native.Nat.{ℕ}
use native.Mathlib.Omega.{arith}
use lib.Dec.{T, eqb}
use lib.ListN.{length, take}
use lib.Pointwise.{pointwise}
use Rattle.std.proofs.Common.{nat_eq}
use Rattle.std.specs.List.{starts_with}
use borrow.Author.Tests.{ne_eqb}
use Rattle.bpg_codec.specs.Lists.{same}
use Rattle.bpg_codec.proofs.Lists.{same-equal, same_refl}
use Rattle.bpg_codec.proofs.Select.{and_left, and_right, and_both}
use Rattle.bpg_format.specs.Rules.{DataRules}
use Rattle.bpg_format.specs.Tests.{data_allowed}

failed : (b : Bool) → T (not b) → T b → T false
failed true t u = t
failed false t u = u

fails : (b : Bool) → (T b → T false) → T (not b)
fails true f = f tt
fails false f = tt

differs : (l m : List ℕ) → T (not (same l m)) → l ≢ m
differs l m t e = absurd (failed (same l m) t (subst (λ (x : List ℕ). T (same l x)) e (same_refl l)))

not_same : (l m : List ℕ) → l ≢ m → T (not (same l m))
not_same l m n = fails (same l m) (λ t. absurd (n (same-equal l m t)))

pub data-sound : (l : List ℕ) → T (data_allowed l) → DataRules l
unfolding data_allowed
data-sound l t = search (and_left, and_right, differs)

pub data-full : (l : List ℕ) → DataRules l → T (data_allowed l)
unfolding data_allowed
data-full l r = search (and_both, not_same)

-- ---- the test by the library's `is_empty` and `starts_with`

swap : (x y : ℕ) → eqb x y ≡ eqb y x
swap x y = grind arith

turned : (n l : List ℕ) → pointwise nat_eq n l ≡ same l n
turned [] [] = refl
turned [] (y ∷ l) = refl
turned (x ∷ n) [] = refl
turned (x ∷ n) (y ∷ l) = rw (swap x y, turned n l) refl

empty : (l : List ℕ) → nat_eq (length l) 0 ≡ same l []
empty [] = refl
empty (x ∷ l) = ne_eqb (length (x ∷ l)) 0 (λ e. omega arith)

neither : (p q : Bool) → not (p || q) ≡ not p && not q
neither true q = refl
neither false q = refl

-- the last number of the longer start code as a number of its own: a wrong one then fails by arithmetic
pub by_tests : (l : List ℕ) (n : ℕ) → n ≡ 1
    → not (nat_eq (length l) 0) && not (starts_with nat_eq l (0 ∷ 0 ∷ 1 ∷ []) || starts_with nat_eq l (0 ∷ 0 ∷ 0 ∷ n ∷ [])) ≡ data_allowed l
unfolding data_allowed
by_tests l n e =
    rw (e, empty l, turned (0 ∷ 0 ∷ 1 ∷ []) (take 3 l), turned (0 ∷ 0 ∷ 0 ∷ 1 ∷ []) (take 4 l), neither (same (take 3 l) (0 ∷ 0 ∷ 1 ∷ [])) (same (take 4 l) (0 ∷ 0 ∷ 0 ∷ 1 ∷ []))) refl
