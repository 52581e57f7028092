-- Bytes that end in a zero.
use Rattle.std.specs.Prelude.{Bool, false, List, [], ◌∷◌, ℕ, eqb}

unfoldable pub ends_zero : List ℕ → Bool
ends_zero [] = false
ends_zero (a ∷ []) = eqb a 0
ends_zero (a ∷ b ∷ l) = ends_zero (b ∷ l)
