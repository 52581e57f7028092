-- Offsets as positions (document 01, "Numbers in the file": a position is counted in bits inside a HEVC header, in bytes in the file).
use Rattle.std.specs.Prelude.{ℕ}
use Rattle.bpg_bytes.specs.declared.position.BytePos.{BytePos}
use Rattle.bpg_bytes.specs.declared.position.BitPos.{BitPos}
use Rattle.bpg_bytes.specs.declared.position.Located.{Located}

abbrev pub byte_pos : ℕ → BytePos
byte_pos p = record { 0 = p }

abbrev pub bit_pos : ℕ → BitPos
bit_pos p = record { 0 = p }

-- a value and the offset after it, where `value` says what is stood for
abbrev pub value_at : {T A : Type 0} → (value : T → A) → Located T BytePos → A × ℕ
value_at value x = (value x.value, x.next.0)

-- the same for a number
abbrev pub number_at : Located ℕ BytePos → ℕ × ℕ
number_at x = (x.value, x.next.0)
