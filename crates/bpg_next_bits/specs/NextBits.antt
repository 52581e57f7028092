-- For proofs and inner contracts: the next bits of a region, in a word.
use Rattle.std.specs.Prelude.{◌≡◌, Bool, List, ◌++◌, ℕ, ◌-◌, ◌≤◌, length, take, drop}
use Rattle.bpg_codec.specs.Bits.{bits, zeros, unpack}
use Rattle.bpg_bits.specs.BitNumbers.{region_bits}

-- the 64 bits from byte `start` on; zeros past the region
abbrev pub word_bits : (region : List ℕ) (start : ℕ) → List Bool
word_bits region start = take 64 (unpack (drop start region) ++ zeros 64)

-- n bits of the region from p on, at most 63, are there and stand in the high bits of the word
pub record InWord (region : List ℕ) (p word n : ℕ) : Type 0 where
  pub few : n ≤ 63
  pub there : n ≤ length (region_bits region) - p
  pub same : take n (drop p (region_bits region)) ≡ take n (bits 64 word)
