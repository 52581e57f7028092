-- A table of a function's first n values.
use Rattle.std.specs.Prelude.{◌≡◌, List, ℕ, ◌<◌, length, get_or}

pub record TableOf (n : ℕ) (f : ℕ → ℕ) (table : List ℕ) : Type 0 where
  pub size : length table ≡ n
  pub value : (k : ℕ) → k < n → get_or table k 0 ≡ f k
