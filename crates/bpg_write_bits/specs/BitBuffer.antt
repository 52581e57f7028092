-- The bit buffer: up to 64 bits as a number, and how many they are.
use Rattle.std.specs.Prelude.{Bool, List, ℕ, min, ◌+◌, ◌-◌, ◌*◌, ◌%◌, ◌^◌, leb, length}
use Rattle.bpg_codec.specs.Select.{select}
use Rattle.bpg_codec.specs.Bits.{number, bits, padded}
use Rattle.bpg_write_bits.specs.declared.BitBuffer.{BitBuffer}

abbrev pub empty : BitBuffer
empty = record { bits = 0; len = record { 0 = 0 } }

-- stands for more than 64 bits
abbrev pub overfull : BitBuffer
overfull = record { bits = 0; len = record { 0 = 65 } }

-- the bits after those that are there
unfoldable pub appended : BitBuffer → List Bool → BitBuffer
appended b l =
    select (leb (b.len.0 + length l) 64)
    (record { bits = b.bits % 2 ^ (64 - length l) * 2 ^ length l + number l; len = record { 0 = b.len.0 + length l } })
    overfull

-- bits in a buffer of their own
abbrev pub gathered : List Bool → BitBuffer
gathered l = appended empty l

-- the bytes that are written of a buffer: its bits, then zero bits up to the byte
abbrev pub buffer_bytes : BitBuffer → List ℕ
buffer_bytes b = padded (bits (min b.len.0 64) b.bits)
