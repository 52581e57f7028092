-- What the inner function is given.
use Rattle.std.specs.Prelude.{◌≡◌, List, ℕ, ◌≤◌, length}
use Rattle.bpg_sample_rules.specs.Rules.{max_sample}
use Rattle.bpg_sample_rules.specs.Planes.{largest}

-- planes and buffers of one length, whose samples are at most m, the largest of the depth
pub record Given (depth m : ℕ) (y cg co red green blue : List ℕ) : Type 0 where
  pub low : 8 ≤ depth
  pub high : depth ≤ 14
  pub m-is : m ≡ max_sample depth
  pub cg-length : length cg ≡ length y
  pub co-length : length co ≡ length y
  pub red-length : length red ≡ length y
  pub green-length : length green ≡ length y
  pub blue-length : length blue ≡ length y
  pub y-samples : largest y ≤ m
  pub cg-samples : largest cg ≤ m
  pub co-samples : largest co ≤ m
