-- Numbers in bits (document 01, "Numbers in the file"; H.265, clauses 7.2 and 9.2): fields of n bits, u(n), and Exp-Golomb numbers, ue(v).
-- What does not fit its region is refusal 15, at the item.
use Rattle.std.specs.Prelude.{Bool, true, false, List, [], ◌∷◌, ◌++◌, ℕ, ◌+◌, ◌-◌, ◌^◌, ◌<◌, ltb, leb, length, take, drop}
use Rattle.std.specs.Int.Count.{count_leading_zeros}
use Rattle.bpg_codec.specs.Select.{select}
use Rattle.bpg_codec.specs.Outcome.{Outcome, ok, error, ◌>>=◌, guard, Decoded, decoded}
use Rattle.bpg_codec.specs.Codec.{Codec}
use Rattle.bpg_codec.specs.Bits.{number, bits, zeros, unpack}

-- the bits of a region, or of its first 2^60 bytes where it is longer: an offset in bits is a number of 64 bits
abbrev pub region_bits : List ℕ → List Bool
region_bits region = unpack (take (2 ^ 60) region)

-- u(n): the next n bits, the high bit first
abbrev pub unsigned_decode : (n item own : ℕ) → List Bool → Outcome (Decoded Bool ℕ)
unsigned_decode n i p l = guard (leb n (length l)) 15 i >>= λ _. ok (decoded (number (take n l)) (p + n) (drop n l))

abbrev pub unsigned : ℕ → Codec Bool ℕ
unsigned n = record { encode = bits n; decode = unsigned_decode n; Valid = λ v. v < 2 ^ n }

-- z zero bits and a one; z is at most 31
unfoldable pub prefix_decode : (item z own : ℕ) → List Bool → Outcome (Decoded Bool ℕ)
prefix_decode i z p [] = error 15 i
prefix_decode i z p (true ∷ l) = ok (decoded z (p + 1) l)
prefix_decode i z p (false ∷ l) = let more = prefix_decode i (z + 1) (p + 1) l in guard (ltb z 31) 15 i >>= λ _. more

-- z further bits; the value is 2^z - 1 plus those bits
abbrev pub exp_golomb_suffix : (item z own : ℕ) → List Bool → Outcome (Decoded Bool ℕ)
exp_golomb_suffix i z p l = unsigned_decode z i p l >>= λ x. ok (decoded (2 ^ z - 1 + x.value) x.next x.rest)

-- ue(v)
abbrev pub exp_golomb_decode : (item own : ℕ) → List Bool → Outcome (Decoded Bool ℕ)
exp_golomb_decode i p l = prefix_decode i 0 p l >>= λ x. exp_golomb_suffix i x.value x.next x.rest

-- z, from the leading zeros of value + 1 as a 32-bit number
abbrev pub prefix_zeros : ℕ → ℕ
prefix_zeros v = 31 - count_leading_zeros 32 (v + 1)

-- z zero bits, a one, z further bits; no code for 2^32 - 1 and above
unfoldable pub exp_golomb_bits : ℕ → List Bool
exp_golomb_bits v = select (ltb v (2 ^ 32 - 1)) (zeros (prefix_zeros v) ++ (true ∷ bits (prefix_zeros v) (v + 1 - 2 ^ prefix_zeros v))) []

abbrev pub exp_golomb : Codec Bool ℕ
exp_golomb = record { encode = exp_golomb_bits; decode = exp_golomb_decode; Valid = λ v. v < 2 ^ 32 - 1 }
