-- Bytes that end in 00 00, by their last two bytes.
use Rattle.std.proofs.Common.{◌≡◌, refl, sym, ap, ℕ, Bool, true, false, ◌&&◌, suc, ◌-◌, List, [], ◌∷◌, length, nat_eq, arith}
use Rattle.std.specs.List.{ends_with}
use borrow.Author.Tests.{ne_eqb}
use Rattle.bpg_nal_units.proofs.Cases.{by_equal, and-false}
use Rattle.bpg_nal_emulation.specs.Endings.{ends_open}

zero-other : (a : ℕ) → nat_eq 0 a ≡ nat_eq a 0
zero-other a = by_equal a 0 (λ e. rw e) (λ k. rw (ne_eqb a 0 k, ne_eqb 0 a (λ e. k (sym e))))

and_true : (t : Bool) → (t && true) ≡ t
and_true true = refl
and_true false = refl

pub ends-is : (l : List ℕ) → ends_with nat_eq l (0 ∷ 0 ∷ []) ≡ ends_open l
unfolding ends_open
ends-is [] = refl
ends-is (a ∷ []) = and-false (nat_eq 0 a) _ refl
ends-is (a ∷ b ∷ []) = rw (zero-other a, zero-other b) (ap (λ (t : Bool). nat_eq a 0 && t) (and_true (nat_eq b 0)))
ends-is (a ∷ b ∷ c ∷ l) =
    let e : length (a ∷ b ∷ c ∷ l) - 2 ≡ suc (length (b ∷ c ∷ l) - 2) = omega arith in
    rw e (ends-is (b ∷ c ∷ l))
