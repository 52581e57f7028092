-- A number is refused where its bytes end, or at the byte that takes it over its limit, or with 7 at its first byte.
use mathlib.Core.Path.{◌≡◌, refl, sym, ap, subst}
use mathlib.Core.Bool.{Bool, true, false, not}
use mathlib.Core.List.{List, [], ◌∷◌}
use mathlib.Core.Logic.{◌⊎◌, inl, inr, ⊎_elim}
use Prim.Native.Nat.{ℕ, suc, ◌+◌, ◌-◌, ◌*◌, ◌%◌, ◌^◌, ◌≤◌, ◌<◌}
use native.Mathlib.Omega.{arith}
use lib.Dec.{ltb, eqb}
use lib.ListN.{length}
use lib.Pow.{pow_pos}
use borrow.Author.Tests.{ltb-true, ltb-false}
use Rattle.bpg_codec.specs.Select.{select}
use Rattle.bpg_codec.specs.Outcome.{Outcome, ok, error, ◌>>=◌, guard, Decoded, decoded}
use Rattle.bpg_codec.proofs.Outcome.{error-not-ok}
use Rattle.bpg_ue7.specs.Ue7.{ue7_rest, ue7_decode}
use Rattle.bpg_ue7.specs.Places.{TakesOver, Places}

-- how a number is refused after its first byte's mark was looked at
abbrev Stops : (n v p : ℕ) (l : List ℕ) (s o : ℕ) → Type 0
Stops n v p l s o = ((s ≡ 2) × (o ≡ p + length l)) ⊎ ((s ≡ 8) × TakesOver n v p l o)

abbrev status_of : {A : Type 0} → Outcome A → ℕ
status_of (ok a) = 0
status_of (error s o) = s

abbrev offset_of : {A : Type 0} → Outcome A → ℕ
offset_of (ok a) = 0
offset_of (error s o) = o

module _ {A : Type 0} {s t o p : ℕ} (e : ◌≡◌ {A = Outcome A} (error s o) (error t p)) where
  status-is : s ≡ t
  status-is = ap status_of e

  offset-is : o ≡ p
  offset-is = ap offset_of e

-- the byte at p takes the value over the limit
here : (n v p b : ℕ) (l : List ℕ) (s o : ℕ) → v < 2 ^ n → 2 ^ n ≤ v * 128 + b % 128 → ◌≡◌ {A = Outcome (Decoded ℕ ℕ)} (error 8 p) (error s o) → Stops n v p (b ∷ l) s o
here n v p b l s o h k e =
    let z : p - p ≡ 0 = omega arith in
    inr (sym (status-is e), subst (TakesOver n v p (b ∷ l)) (offset-is e) (record { first = omega arith; inside = omega arith; before = rw z h; over = rw z k }))

-- what stops after the byte at p
later : (n v p b : ℕ) (l : List ℕ) (s o : ℕ) → Stops n (v * 128 + b % 128) (p + 1) l s o → Stops n v p (b ∷ l) s o
later n v p b l s o =
    ⊎_elim (λ x. inl (x.0, omega (arith, x.1)))
    (λ x.
    let t = x.1 in
    let k : o - p ≡ suc (o - (p + 1)) = omega (arith, t.first) in
    let m : o - p + 1 ≡ suc (o - (p + 1) + 1) = omega (arith, t.first) in
    inr (x.0, record { first = omega (arith, t.first); inside = omega (arith, t.inside); before = rw k t.before; over = rw m t.over }))

byte-stops : (t u : Bool) (n v p b : ℕ) (l : List ℕ) (s o : ℕ) (more : Outcome (Decoded ℕ ℕ)) → v < 2 ^ n → ltb (v * 128 + b % 128) (2 ^ n) ≡ t
    → (v * 128 + b % 128 < 2 ^ n → more ≡ error s o → Stops n (v * 128 + b % 128) (p + 1) l s o)
    → (guard t 8 p >>= λ _. select u (ok (decoded (v * 128 + b % 128) (p + 1) l)) more) ≡ error s o → Stops n v p (b ∷ l) s o
unfolding select
byte-stops false u n v p b l s o more h k f e = here n v p b l s o h (ltb-false _ _ k) e
byte-stops true true n v p b l s o more h k f e = absurd (error-not-ok (sym e))
byte-stops true false n v p b l s o more h k f e = later n v p b l s o (f (ltb-true _ _ k) e)

rest-stops : (l : List ℕ) (n v p s o : ℕ) → v < 2 ^ n → ue7_rest n v p l ≡ error s o → Stops n v p l s o
unfolding ue7_rest
rest-stops [] n v p s o h e = inl (sym (status-is e), omega (arith, offset-is e))
rest-stops (b ∷ l) n v p s o h e =
    byte-stops (ltb (v * 128 + b % 128) (2 ^ n)) (ltb b 128) n v p b l s o _ h refl (rest-stops l n (v * 128 + b % 128) (p + 1) s o) e

decode-stops : (n p : ℕ) (l : List ℕ) (s o : ℕ) → ue7_decode n p l ≡ error s o → ((s ≡ 7) × (o ≡ p)) ⊎ Stops n 0 p l s o
unfolding ue7_decode
decode-stops n p [] s o e = inr (inl (sym (status-is e), omega (arith, offset-is e)))
decode-stops n p (b ∷ l) s o e = by (not (eqb b 128)) e
  where
    by : (t : Bool) → (guard t 7 p >>= λ _. ue7_rest n 0 p (b ∷ l)) ≡ error s o → ((s ≡ 7) × (o ≡ p)) ⊎ Stops n 0 p (b ∷ l) s o
    by false e = inl (sym (status-is e), sym (offset-is e))
    by true e = inr (rest-stops (b ∷ l) n 0 p s o (pow_pos n) e)

pub places : Places
places =
    record {
      within = λ n p l s o e.
          ⊎_elim (λ x. omega (arith, x.1)) (⊎_elim (λ x. omega (arith, x.1)) (λ x. omega (arith, x.1.first, x.1.inside))) (decode-stops n p l s o e);
      missing = λ n p l o e.
          ⊎_elim (λ x. absurd (omega (arith, x.0))) (⊎_elim (λ x. x.1) (λ x. absurd (omega (arith, x.0)))) (decode-stops n p l 2 o e);
      large = λ n p l o e.
          ⊎_elim (λ x. absurd (omega (arith, x.0))) (⊎_elim (λ x. absurd (omega (arith, x.0))) (λ x. x.1)) (decode-stops n p l 8 o e);
      padded = λ n p l o e.
          ⊎_elim (λ x. x.1) (⊎_elim (λ x. absurd (omega (arith, x.0))) (λ x. absurd (omega (arith, x.0)))) (decode-stops n p l 7 o e);
    }
