-- Checks one after the other, and the entries with tag 4 among all.
use mathlib.Core.Path.{◌≡◌, refl}
use mathlib.Core.Bool.{Bool, true, false}
use mathlib.Core.List.{List, [], ◌∷◌}
use Prim.Native.Nat.{ℕ, zero, suc}
use native.Mathlib.Omega.{arith}
use lib.Dec.{eqb}
use lib.ListN.{get_or}
use borrow.Author.Tests.{eq-eqb, eqb-true}
use Rattle.bpg_codec.specs.Select.{select}
use Rattle.bpg_codec.specs.Outcome.{Outcome, ok, ◌>>=◌, guard}
use Rattle.bpg_codec.specs.Lawful.{All}
use Rattle.bpg_codec.proofs.Outcome.{unbind}
use Rattle.bpg_codec.proofs.Refusals.{Refuses, refuses-ok, refuses-error, refuses-bind}
use Rattle.bpg_format.specs.declared.record.Entry.{Entry}
use Rattle.bpg_format.specs.Zero.{zero_entry}
use Rattle.bpg_thumbnails.specs.Thumbnails.{with_tag4, each}

-- a rule that failed, or what follows it
pub refuses-test : (P : ℕ → ℕ → Type 0) {B : Type 0} (t : Bool) (s o : ℕ) (k : Outcome B)
    → (t ≡ false → P s o) → (t ≡ true → Refuses P k) → Refuses P (guard t s o >>= λ _. k)
refuses-test P true s o k f g = g refl
refuses-test P false s o k f g = refuses-error P s o (f refl)

-- ---- one after the other

abbrev pub Passes : Outcome (Unit {0}) → Type 0
Passes m = m ≡ ok tt

module _ {A : Type 0} (check : A → Outcome (Unit {0})) where
  pub each-sound : (xs : List A) → Passes (each check xs) → All (λ x. Passes (check x)) xs
  unfolding each
  each-sound [] e = tt
  each-sound (x ∷ xs) e = unbind (check x) _ e λ u a b. (a, each-sound xs b)

  pub each-full : (xs : List A) → All (λ x. Passes (check x)) xs → Passes (each check xs)
  unfolding each
  each-full [] h = refl
  each-full (x ∷ xs) h = rw h.0 (each-full xs h.1)

  pub each-refuses : (P : ℕ → ℕ → Type 0) (xs : List A) → All (λ x. Refuses P (check x)) xs → Refuses P (each check xs)
  unfolding each
  each-refuses P [] h = refuses-ok P tt
  each-refuses P (x ∷ xs) h = refuses-bind P (check x) _ h.0 λ _. each-refuses P xs h.1

-- ---- the entries with tag 4

module _ (P : Entry → Type 0) where
  pub tagged-sound : (es : List Entry) → All P (with_tag4 es) → (k : ℕ) → (get_or es k zero_entry).tag ≡ 4 → P (get_or es k zero_entry)
  unfolding with_tag4 select
  tagged-sound [] h k e = absurd (omega arith)
  tagged-sound (x ∷ es) h zero e = (rw (eq-eqb x.tag 4 e) at h).0
  tagged-sound (x ∷ es) h (suc k) e = tagged-sound es (by (eqb x.tag 4) h) k e
    where
      by : (b : Bool) → All P (select b (x ∷ with_tag4 es) (with_tag4 es)) → All P (with_tag4 es)
      by true a = a.1
      by false a = a

  pub tagged-full : (es : List Entry) → ((k : ℕ) → (get_or es k zero_entry).tag ≡ 4 → P (get_or es k zero_entry)) → All P (with_tag4 es)
  unfolding with_tag4 select
  tagged-full [] h = tt
  tagged-full (x ∷ es) h = by (tagged-full es (λ k. h (suc k))) (eqb x.tag 4) refl
    where
      by : All P (with_tag4 es) → (b : Bool) → eqb x.tag 4 ≡ b → All P (select b (x ∷ with_tag4 es) (with_tag4 es))
      by rest true e = (h 0 (eqb-true x.tag 4 e), rest)
      by rest false e = rest
