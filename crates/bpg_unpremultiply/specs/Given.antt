-- What the inner function is given.
use Rattle.std.specs.Prelude.{◌≡◌, List, ℕ, ◌≤◌, length}
use Rattle.bpg_sample_rules.specs.Planes.{largest}

-- planes and buffers as long as A, whose samples are at most m
pub record Given (m : ℕ) (r g b a red green blue : List ℕ) : Type 0 where
  pub m-high : m ≤ 16383
  pub a-samples : largest a ≤ m
  pub r-length : length r ≡ length a
  pub g-length : length g ≡ length a
  pub b-length : length b ≡ length a
  pub red-length : length red ≡ length a
  pub green-length : length green ≡ length a
  pub blue-length : length blue ≡ length a
