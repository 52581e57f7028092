-- Laws of rules over planes: how long the result is, what stands at an index, and what holds of every sample.
use mathlib.Core.Path.{◌≡◌, refl, ap, ap₂}
use mathlib.Core.List.{List, [], ◌∷◌, map, zip_with}
use Prim.Native.Nat.{ℕ, zero, suc, ◌≤◌, ◌<◌}
use native.Mathlib.Nat.{le_trans, le-max_left, le-max_right}
use native.Mathlib.Omega.{arith}
use lib.ListN.{length, get_or, replicate}
use Rattle.bpg_codec.specs.Lawful.{All}
use Rattle.bpg_sample_rules.specs.Planes.{zip_with3, largest}

-- ---- length, and the result at an index

pub map_at : (f : ℕ → ℕ) (a : List ℕ) (i : ℕ) → i < length a → get_or (map f a) i 0 ≡ f (get_or a i 0)
map_at f [] i h = absurd (omega arith)
map_at f (x ∷ a) zero h = refl
map_at f (x ∷ a) (suc i) h = map_at f a i (omega arith)

pub zip_length : (f : ℕ → ℕ → ℕ) (a b : List ℕ) → length b ≡ length a → length (zip_with f a b) ≡ length a
unfolding zip_with
zip_length f [] b e = refl
zip_length f (x ∷ a) [] e = absurd (omega arith)
zip_length f (x ∷ a) (y ∷ b) e = ap suc (zip_length f a b (omega arith))

pub zip-at : (f : ℕ → ℕ → ℕ) (a b : List ℕ) (i : ℕ) → length b ≡ length a → i < length a → get_or (zip_with f a b) i 0 ≡ f (get_or a i 0) (get_or b i 0)
unfolding zip_with
zip-at f [] b i e h = absurd (omega arith)
zip-at f (x ∷ a) [] i e h = absurd (omega arith)
zip-at f (x ∷ a) (y ∷ b) zero e h = refl
zip-at f (x ∷ a) (y ∷ b) (suc i) e h = zip-at f a b i (omega arith) (omega arith)

pub zip3-length : (f : ℕ → ℕ → ℕ → ℕ) (a b c : List ℕ) → length b ≡ length a → length c ≡ length a → length (zip_with3 f a b c) ≡ length a
unfolding zip_with3
zip3-length f [] b c e k = refl
zip3-length f (x ∷ a) [] c e k = absurd (omega arith)
zip3-length f (x ∷ a) (y ∷ b) [] e k = absurd (omega arith)
zip3-length f (x ∷ a) (y ∷ b) (z ∷ c) e k = ap suc (zip3-length f a b c (omega arith) (omega arith))

pub zip3-at : (f : ℕ → ℕ → ℕ → ℕ) (a b c : List ℕ) (i : ℕ) → length b ≡ length a → length c ≡ length a → i < length a
    → get_or (zip_with3 f a b c) i 0 ≡ f (get_or a i 0) (get_or b i 0) (get_or c i 0)
unfolding zip_with3
zip3-at f [] b c i e k h = absurd (omega arith)
zip3-at f (x ∷ a) [] c i e k h = absurd (omega arith)
zip3-at f (x ∷ a) (y ∷ b) [] i e k h = absurd (omega arith)
zip3-at f (x ∷ a) (y ∷ b) (z ∷ c) zero e k h = refl
zip3-at f (x ∷ a) (y ∷ b) (z ∷ c) (suc i) e k h = zip3-at f a b c i (omega arith) (omega arith) (omega arith)

-- each sample of a plane is at most the largest, and so is 0 past its end
pub at-most-largest : (l : List ℕ) (i : ℕ) → get_or l i 0 ≤ largest l
unfolding largest
at-most-largest [] i = omega arith
at-most-largest (x ∷ l) zero = le-max_left x (largest l)
at-most-largest (x ∷ l) (suc i) = le_trans (at-most-largest l i) (le-max_right x (largest l))

-- ---- every sample

module _ (P : ℕ → Type 0) where
  pub map-all : (f : ℕ → ℕ) → ((x : ℕ) → P (f x)) → (a : List ℕ) → All P (map f a)
  map-all f h [] = tt
  map-all f h (x ∷ a) = (h x, map-all f h a)

  pub zip-all : (f : ℕ → ℕ → ℕ) → ((x y : ℕ) → P (f x y)) → (a b : List ℕ) → All P (zip_with f a b)
  unfolding zip_with
  zip-all f h [] b = tt
  zip-all f h (x ∷ a) [] = tt
  zip-all f h (x ∷ a) (y ∷ b) = (h x y, zip-all f h a b)

  pub zip3-all : (f : ℕ → ℕ → ℕ → ℕ) → ((x y z : ℕ) → P (f x y z)) → (a b c : List ℕ) → All P (zip_with3 f a b c)
  unfolding zip_with3
  zip3-all f h [] b c = tt
  zip3-all f h (x ∷ a) [] c = tt
  zip3-all f h (x ∷ a) (y ∷ b) [] = tt
  zip3-all f h (x ∷ a) (y ∷ b) (z ∷ c) = (h x y z, zip3-all f h a b c)

  -- of a rule that keeps P
  pub zip-kept : (f : ℕ → ℕ → ℕ) → ((x y : ℕ) → P x → P y → P (f x y)) → (a b : List ℕ) → All P a → All P b → All P (zip_with f a b)
  unfolding zip_with
  zip-kept f h [] b p q = tt
  zip-kept f h (x ∷ a) [] p q = tt
  zip-kept f h (x ∷ a) (y ∷ b) p q = (h x y p.0 q.0, zip-kept f h a b p.1 q.1)

  -- of a rule that changes no sample
  pub map-twice : (f : ℕ → ℕ) → ((x : ℕ) → P x → f (f x) ≡ x) → (a : List ℕ) → All P a → map f (map f a) ≡ a
  map-twice f h [] p = refl
  map-twice f h (x ∷ a) p = ap₂ ◌∷◌ (h x p.0) (map-twice f h a p.1)

  pub zip-same : (f : ℕ → ℕ → ℕ) (m : ℕ) → ((x : ℕ) → P x → f x m ≡ x) → (a : List ℕ) → All P a → zip_with f a (replicate (length a) m) ≡ a
  unfolding zip_with
  zip-same f m h [] p = refl
  zip-same f m h (x ∷ a) p = ap₂ ◌∷◌ (h x p.0) (zip-same f m h a p.1)
