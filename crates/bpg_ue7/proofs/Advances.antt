-- What is left after a number, and that it is below its limit, whatever the bytes are.
use mathlib.Core.Path.{◌≡◌, sym, ap, ◌∙◌, subst}
use mathlib.Core.Bool.{Bool, true, false, not}
use mathlib.Core.List.{List, [], ◌∷◌}
use Prim.Native.Nat.{ℕ, suc, ◌+◌, ◌-◌, ◌*◌, ◌%◌, ◌^◌, ◌≤◌, ◌<◌}
use native.Mathlib.Omega.{arith}
use lib.Dec.{ltb, eqb, ltb→lt}
use lib.ListN.{length, drop}
use Rattle.bpg_codec.specs.Select.{select}
use Rattle.bpg_codec.specs.Outcome.{Outcome, ok, Decoded, decoded}
use Rattle.bpg_codec.proofs.Outcome.{error-not-ok, ok-injective, unguard}
use Rattle.bpg_codec.proofs.Positions.{Advances}
use Rattle.bpg_ue7.specs.Ue7.{ue7_rest, ue7_decode, ue7}

-- a number was read from p on
abbrev Read : (n p : ℕ) (l : List ℕ) → Decoded ℕ ℕ → Type 0
Read n p l x = (p < x.next) × (x.next ≤ p + length l) × (x.rest ≡ drop (x.next - p) l) × (x.value < 2 ^ n)

last : (t : Bool) (n p w b : ℕ) (l : List ℕ) (more : Outcome (Decoded ℕ ℕ)) (x : Decoded ℕ ℕ)
    → w < 2 ^ n → (more ≡ ok x → Read n (p + 1) l x) → select t (ok (decoded w (p + 1) l)) more ≡ ok x → Read n p (b ∷ l) x
unfolding select
last true n p w b l more x h ih e =
    let one : p + 1 - p ≡ 1 = omega arith in
    subst (Read n p (b ∷ l)) (ok-injective e) (omega arith, omega arith, ap (λ (k : ℕ). drop k (b ∷ l)) (sym one), h)
last false n p w b l more x h ih e =
    let k = ih e in
    let next : suc (x.next - (p + 1)) ≡ x.next - p = omega (arith, k.0) in
    (omega (arith, k.0), omega (arith, k.1), k.2 ∙ ap (λ (k : ℕ). drop k (b ∷ l)) next, k.3)

rest-reads : (n v p : ℕ) (l : List ℕ) (x : Decoded ℕ ℕ) → ue7_rest n v p l ≡ ok x → Read n p l x
unfolding ue7_rest
rest-reads n v p [] x e = absurd (error-not-ok e)
rest-reads n v p (b ∷ l) x e =
    let w = v * 128 + b % 128 in
    unguard (ltb w (2 ^ n)) 8 p _ e λ h e1. last (ltb b 128) n p w b l _ x (ltb→lt _ _ h) (rest-reads n w (p + 1) l x) e1

reads : (n p : ℕ) (l : List ℕ) (x : Decoded ℕ ℕ) → ue7_decode n p l ≡ ok x → Read n p l x
unfolding ue7_decode
reads n p [] x e = absurd (error-not-ok e)
reads n p (b ∷ l) x e = unguard (not (eqb b 128)) 7 p _ e λ _ e1. rest-reads n 0 p (b ∷ l) x e1

pub ue7-advances : (n : ℕ) → Advances (ue7 n)
ue7-advances n =
    record { advances = λ i p l x e. let s = reads n p l x e in record { forward = omega (arith, s.0); inside = s.1; left = s.2 } }

pub ue7-limit : (n i p : ℕ) (l : List ℕ) (x : Decoded ℕ ℕ) → (ue7 n).decode i p l ≡ ok x → x.value < 2 ^ n
ue7-limit n i p l x e = (reads n p l x e).3

-- a number has at least one byte
pub ue7-longer : (n i p : ℕ) (l : List ℕ) (x : Decoded ℕ ℕ) → (ue7 n).decode i p l ≡ ok x → p < x.next
ue7-longer n i p l x e = (reads n p l x e).0
