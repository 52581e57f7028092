-- Bytes that end in 00 00.
use Rattle.std.specs.Prelude.{Bool, false, ◌&&◌, List, [], ◌∷◌, ℕ, eqb}

unfoldable pub ends_open : List ℕ → Bool
ends_open [] = false
ends_open (a ∷ []) = false
ends_open (a ∷ b ∷ []) = eqb a 0 && eqb b 0
ends_open (a ∷ b ∷ c ∷ l) = ends_open (b ∷ c ∷ l)
