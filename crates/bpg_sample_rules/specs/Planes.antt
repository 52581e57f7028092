-- A rule over whole planes, sample by sample: `map`, `zip_with`, and for three planes the same.
use Rattle.std.specs.Prelude.{List, [], ◌∷◌, ℕ, max}

unfoldable pub zip_with3 : (ℕ → ℕ → ℕ → ℕ) → List ℕ → List ℕ → List ℕ → List ℕ
zip_with3 f (x ∷ xs) (y ∷ ys) (z ∷ zs) = f x y z ∷ zip_with3 f xs ys zs
zip_with3 f [] ys zs = []
zip_with3 f (x ∷ xs) [] zs = []
zip_with3 f (x ∷ xs) (y ∷ ys) [] = []

-- the largest sample of a plane, 0 of none
unfoldable pub largest : List ℕ → ℕ
largest [] = 0
largest (x ∷ l) = max x (largest l)
