-- "To the nearest, halves up": the one definition of rounding.
use Rattle.std.specs.Prelude.{◌≢◌, ℕ, ◌+◌, ◌*◌, ◌/◌, ◌≤◌}

-- a / b to the nearest, halves up: a / b and a half, rounded down
unfoldable pub nearest : (a b : ℕ) → ℕ
nearest a b = (2 * a + b) / (2 * b)

-- What it means; all is doubled and times b, so that there are no fractions.
pub record IsNearest (a b q : ℕ) : Type 0 where
  -- q is at most a half above the quotient, and at most a half below it
  pub above : 2 * q * b ≤ 2 * a + b
  pub below : 2 * a ≤ 2 * q * b + b
  -- where the quotient lies half way between two numbers, q is not the smaller
  pub halves-up : 2 * a ≢ 2 * q * b + b
