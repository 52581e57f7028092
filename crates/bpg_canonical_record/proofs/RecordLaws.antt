-- The entries of the canonical record, one after another.
use Rattle.std.proofs.Common.{◌≡◌, ℕ, zero, suc, min, List, [], ◌∷◌, ◌++◌, map, length, take, drop, refl, ap, arith}
use Rattle.bpg_canonical_record.specs.Records.{changed}

module _ {A : Type 0} (f : A → A) where
  -- no more can be changed than there are
  pub changed-front : (l : List A) (k n : ℕ) → k ≡ min n (length l) → map f (take k l) ++ drop k l ≡ changed f n l
  changed-front [] zero zero h = refl
  changed-front [] zero (suc n) h = refl
  changed-front [] (suc k) n h = absurd (omega arith)
  changed-front (x ∷ l) zero zero h = refl
  changed-front (x ∷ l) zero (suc n) h = absurd (omega arith)
  changed-front (x ∷ l) (suc k) zero h = absurd (omega arith)
  changed-front (x ∷ l) (suc k) (suc n) h = ap (λ (m : List A). f x ∷ m) (changed-front l k n (omega arith))

  pub take-changed : (l : List A) (n : ℕ) → take n (changed f n l) ≡ map f (take n l)
  take-changed l zero = refl
  take-changed [] (suc n) = refl
  take-changed (x ∷ l) (suc n) = ap (λ (m : List A). f x ∷ m) (take-changed l n)

  pub drop-changed : (l : List A) (n : ℕ) → drop n (changed f n l) ≡ drop n l
  drop-changed l zero = refl
  drop-changed [] (suc n) = refl
  drop-changed (x ∷ l) (suc n) = drop-changed l n
