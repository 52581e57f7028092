-- What a call answers of reading a number in bits.
use Rattle.std.specs.Prelude.{Option, Some, None, List, ℕ, min}
use Rattle.bpg_codec.specs.Outcome.{Outcome, ok, error}
use Rattle.bpg_codec.specs.Codec.{decode_at}
use Rattle.bpg_bytes.specs.declared.position.BitPos.{BitPos}
use Rattle.bpg_bytes.specs.declared.position.Located.{Located}
use Rattle.bpg_bytes.specs.Positions.{bit_pos}
use Rattle.bpg_bits.specs.BitNumbers.{region_bits, unsigned}

-- a number, and the offset in bits after it
abbrev pub bit_number : (value next : ℕ) → Located ℕ BitPos
bit_number v p = record { value = v; next = bit_pos p }

-- the number and the offset after it; or refusal 15, at the item that the number stands in
abbrev pub bit_outcome : (item : ℕ) → Option (Located ℕ BitPos) → Outcome (ℕ × ℕ)
bit_outcome i (Some x) = ok (x.value, x.next.0)
bit_outcome i None = error 15 i

-- the same for each item, since the answer does not say where the number was missing
abbrev pub bit_answer : Outcome (ℕ × ℕ) → Option (Located ℕ BitPos)
bit_answer (ok x) = Some (bit_number x.0 x.1)
bit_answer (error s o) = None

-- a field of n bits at p; n above 8 counts as 8
abbrev pub short_answer : (region : List ℕ) (p n : ℕ) → Option (Located ℕ BitPos)
short_answer region p n = bit_answer (decode_at (region_bits region) (unsigned (min n 8)) 0 p)
