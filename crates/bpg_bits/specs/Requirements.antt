-- Request 8/13, in its own words and as types over the answer that the contract of `short::read` cites. `proofs/Requirements` proves them.
use Rattle.std.specs.Prelude.{◌≡◌, Some, None, false, List, ℕ, ◌+◌, ◌-◌, ◌/◌, ◌≤◌, ◌<◌, length, take, drop, get_or}
use Rattle.bpg_codec.specs.Lawful.{All, Byte}
use Rattle.bpg_codec.specs.Bits.{number, bit_at}
use Rattle.bpg_bits.specs.BitNumbers.{region_bits}
use Rattle.bpg_bits.specs.Answers.{bit_number, short_answer}

-- "Its promise, proved once over n:"
pub record ShortField : Type 0 where
  -- "the next n bits as a number, .. and the bit place after them,"
  pub next-bits : (region : List ℕ) (p n : ℕ) → n ≤ 8 → p + n ≤ length (region_bits region)
      → short_answer region p n ≡ Some (bit_number (number (take n (drop p (region_bits region)))) (p + n))
  -- "high bit first": bit j of the n, counted from 0, is bit n - 1 - j of the number, counted from the low end
  pub high-first : (region : List ℕ) (p n j : ℕ) → p + n ≤ length (region_bits region) → j < n
      → bit_at (number (take n (drop p (region_bits region)))) (n - 1 - j) ≡ get_or (region_bits region) (p + j) false
  -- "or that fewer are left."
  pub fewer : (region : List ℕ) (p n : ℕ) → 1 ≤ n → n ≤ 8 → length (region_bits region) < p + n → short_answer region p n ≡ None

-- "n from 1 to 8": what is answered for every other n
pub record OtherWidths : Type 0 where
  -- no bits are 0, wherever they stand
  pub none : (region : List ℕ) (p : ℕ) → short_answer region p 0 ≡ Some (bit_number 0 p)
  -- more than 8 count as 8
  pub more : (region : List ℕ) (p n : ℕ) → 8 ≤ n → short_answer region p n ≡ short_answer region p 8

-- "one small routine": besides how many bits there are, two bytes decide, that of the first bit and the next one
pub record TwoBytes : Type 0 where
  pub decide : (a b : List ℕ) (p n : ℕ) → All Byte a → All Byte b → length a ≡ length b
      → get_or a (p / 8) 0 ≡ get_or b (p / 8) 0 → get_or a (p / 8 + 1) 0 ≡ get_or b (p / 8 + 1) 0 → short_answer a p n ≡ short_answer b p n
