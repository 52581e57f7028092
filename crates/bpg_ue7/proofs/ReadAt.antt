-- A number that was read at an offset of a region, as its codec decodes it there.
use mathlib.Core.Path.{◌≡◌, refl, ap, ◌∙◌}
use mathlib.Core.Bool.{Bool, true, false}
use mathlib.Core.List.{List}
use Prim.Native.Nat.{ℕ}
use lib.ListN.{drop}
use Rattle.std.specs.Prelude.{Ok, Err}
use Rattle.bpg_codec.specs.Outcome.{Outcome, ok, error, ◌>>=◌, guard, Decoded, decoded, located}
use Rattle.bpg_codec.specs.Codec.{Codec}
use Rattle.bpg_codec.specs.Parts.{guarded}
use Rattle.bpg_codec.proofs.Positions.{Advances, at_offset, whole}
use Rattle.bpg_codec.proofs.Outcome.{bind_assoc, bind-cong}
use Rattle.bpg_bytes.specs.declared.position.BytePos.{BytePos}
use Rattle.bpg_bytes.specs.declared.position.Located.{Located}
use Rattle.bpg_bytes.specs.Positions.{number_at}
use Rattle.bpg_refusal.specs.declared.Refusal.{Refusal}
use Rattle.bpg_refusal.specs.Numbers.{reason_number}
use Rattle.bpg_refusal.specs.Outcomes.{outcome}

module _ {c : Codec ℕ ℕ} (hc : Advances c) (region : List ℕ) (p : ℕ) where
  pub value_read : (x : Located ℕ BytePos) → outcome number_at (Ok x) ≡ located (c.decode p p (drop p region))
      → c.decode p p (drop p region) ≡ ok (decoded x.value x.next.0 (drop x.next.0 region))
  value_read x e = whole hc region p p (ok (x.value, x.next.0)) e

  pub refusal_read : (r : Refusal) → outcome number_at (Err r) ≡ located (c.decode p p (drop p region))
      → c.decode p p (drop p region) ≡ error (reason_number r.reason) r.offset.0
  refusal_read r e = whole hc region p p (error (reason_number r.reason) r.offset.0) e

-- a rule on the value, over the value and the offset after it
module _ {S A : Type 0} (rule : A → Bool) (status : ℕ) where
  by-test : (t : Bool) (o : ℕ) (x : Decoded S A) → located (guard t status o >>= λ _. ok x) ≡ (guard t status o >>= λ _. ok (x.value, x.next))
  by-test true o x = refl
  by-test false o x = refl

  by-outcome : (m : Outcome (Decoded S A)) (o : ℕ) → located (m >>= λ x. guard (rule x.value) status o >>= λ _. ok x)
      ≡ (located m >>= λ y. guard (rule y.0) status o >>= λ _. ok y)
  by-outcome (ok x) o = by-test (rule x.value) o x
  by-outcome (error s k) o = refl

  pub guarded_at : (c : Codec S A) (offset : ℕ → ℕ → ℕ) (i p : ℕ) (l : List S) → located ((guarded c rule status offset).decode i p l)
      ≡ (located (c.decode i p l) >>= λ y. guard (rule y.0) status (offset i p) >>= λ _. ok y)
  unfolding guarded
  guarded_at c offset i p l = by-outcome (c.decode i p l) (offset i p)

-- what follows a part, over its value and the offset after it
pub step_at : {S A B : Type 0} {c : Codec S A} → Advances c → (region : List S) (i p : ℕ) (k : Decoded S A → Outcome B) (f : A × ℕ → Outcome B)
    → ((a : A) (q : ℕ) → k (decoded a q (drop q region)) ≡ f (a, q))
    → (c.decode i p (drop p region) >>= k) ≡ (located (c.decode i p (drop p region)) >>= f)
step_at {S} {A} {c = c} hc region i p k f h =
    ap (λ (m : Outcome (Decoded S A)). m >>= k) (at_offset hc region i p)
    ∙ bind_assoc (located (c.decode i p (drop p region))) _ k
    ∙ bind-cong (located (c.decode i p (drop p region))) _ f (λ x _. h x.0 x.1)
