-- What reading all fields of a header answers.
use Rattle.std.specs.Prelude.{Option, Some, None, ℕ}
use Rattle.bpg_codec.specs.Outcome.{Outcome, ok, error}
use Rattle.bpg_bytes.specs.declared.position.BitPos.{BitPos}
use Rattle.bpg_bytes.specs.declared.position.Located.{Located}
use Rattle.bpg_bytes.specs.Positions.{bit_pos}
use Rattle.bpg_format.specs.declared.record.Header.{Header}

-- a header, and the offset in bits after it
abbrev pub header_at : (header : Header) (next : ℕ) → Located Header BitPos
header_at h p = record { value = h; next = bit_pos p }

-- the same for each item, since the answer does not say where the fields were missing
abbrev pub fields_answer : Outcome (Header × ℕ) → Option (Located Header BitPos)
fields_answer (ok x) = Some (header_at x.0 x.1)
fields_answer (error s o) = None
