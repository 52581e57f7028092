-- The largest sample of a plane: by a loop, and against every sample.
use mathlib.Core.Path.{◌≡◌, sym, ap, ◌∙◌}
use mathlib.Core.Bool.{Bool, ◌&&◌}
use mathlib.Core.List.{List, [], ◌∷◌}
use Prim.Native.Nat.{ℕ, zero, suc, ◌+◌, ◌<◌, max}
use native.Mathlib.Numerals.{add-one}
use native.Mathlib.Omega.{arith}
use lib.Dec.{leb}
use lib.ListN.{length, take, get_or}
use borrow.Author.Tests.{le-leb, lt-leb}
use Rattle.std.specs.List.{list_all}
use Rattle.bpg_codec.proofs.Lists.{either_way}
use Rattle.bpg_sample_rules.specs.Planes.{largest}

-- one sample more
pub largest_more : (plane : List ℕ) (i : ℕ) → i < length plane → largest (take (i + 1) plane) ≡ max (largest (take i plane)) (get_or plane i 0)
unfolding largest
largest_more [] i h = absurd (omega arith)
largest_more (x ∷ plane) zero h = omega arith
largest_more (x ∷ plane) (suc i) h = rw add-one (let e = rw add-one at (largest_more plane i (omega arith)) in omega (arith, e))

-- ---- every sample is at most m exactly if the largest is

both : (x y m : ℕ) → (leb x m && leb y m) ≡ leb (max x y) m
both x y m =
    either_way x m
    (λ h. either_way y m
    (λ k. rw (le-leb x m h, le-leb y m k, le-leb (max x y) m (omega arith)))
    λ k. rw (le-leb x m h, lt-leb y m k, lt-leb (max x y) m (omega arith)))
    λ h. rw (lt-leb x m h, lt-leb (max x y) m (omega arith))

pub plane-largest : (m : ℕ) (l : List ℕ) → list_all (λ s. leb s m) l ≡ leb (largest l) m
unfolding largest
plane-largest m [] = sym (le-leb 0 m (omega arith))
plane-largest m (x ∷ l) = ap (λ (b : Bool). leb x m && b) (plane-largest m l) ∙ both x (largest l) m
