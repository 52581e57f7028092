-- The number that stands for 1 / a.
use Rattle.std.specs.Prelude.{ℕ, ◌+◌, ◌/◌, ◌^◌, max}

abbrev pub reciprocal_of : (a : ℕ) → ℕ
reciprocal_of a = 2 ^ 44 / max 1 a + 1
