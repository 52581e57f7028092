-- What is left after a number in bits, whatever the bits are.
use mathlib.Core.Path.{◌≡◌, subst}
use mathlib.Core.Bool.{Bool, true, false}
use mathlib.Core.List.{List, [], ◌∷◌}
use Prim.Native.Nat.{ℕ, ◌+◌}
use native.Mathlib.Omega.{arith}
use lib.Dec.{ltb, leb, leb→le}
use lib.ListN.{length}
use Rattle.bpg_codec.specs.Outcome.{ok, Decoded}
use Rattle.bpg_codec.proofs.Outcome.{error-not-ok, ok-injective, unbind, unguard}
use Rattle.bpg_codec.proofs.Positions.{Advanced, Advances, moved, advanced-then}
use Rattle.bpg_bits.specs.BitNumbers.{unsigned_decode, unsigned, prefix_decode, exp_golomb}

pub unsigned-advances : (n : ℕ) → Advances (unsigned n)
unsigned-advances n =
    record {
      advances = λ i p l x e.
          unguard (leb n (length l)) 15 i _ e λ h e1.
          subst (λ (z : Decoded Bool ℕ). Advanced p l z.next z.rest) (ok-injective e1) (moved p l n (leb→le n (length l) h));
    }

prefix-advances : (i z p : ℕ) (l : List Bool) (x : Decoded Bool ℕ) → prefix_decode i z p l ≡ ok x → Advanced p l x.next x.rest
unfolding prefix_decode
prefix-advances i z p [] x e = absurd (error-not-ok e)
prefix-advances i z p (true ∷ l) x e =
    subst (λ (z : Decoded Bool ℕ). Advanced p (true ∷ l) z.next z.rest) (ok-injective e) (moved p (true ∷ l) 1 (omega arith))
prefix-advances i z p (false ∷ l) x e =
    unguard (ltb z 31) 15 i _ e λ _ e1.
    advanced-then (moved p (false ∷ l) 1 (omega arith)) (prefix-advances i (z + 1) (p + 1) l x e1)

pub exp_golomb-advances : Advances exp_golomb
exp_golomb-advances =
    record {
      advances = λ i p l x e.
          unbind (prefix_decode i 0 p l) _ e λ y e1 e2.
          unbind (unsigned_decode y.value i y.next y.rest) _ e2 λ w e3 e4.
          subst (λ (z : Decoded Bool ℕ). Advanced p l z.next z.rest) (ok-injective e4)
          (advanced-then (prefix-advances i 0 p l y e1) ((unsigned-advances y.value).advances i y.next y.rest w e3));
    }
