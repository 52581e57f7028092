-- What reading a header answers (document 01, "Order of the file", item 6).
use Rattle.std.specs.Prelude.{List, ℕ, ◌*◌, leb, length, drop}
use Rattle.bpg_codec.specs.Outcome.{Outcome, ok, ◌>>=◌, guard, Decoded, decoded}
use Rattle.bpg_codec.specs.Bits.{is_padding, unpack}
use Rattle.bpg_bytes.specs.declared.position.BytePos.{BytePos}
use Rattle.bpg_bytes.specs.declared.position.Located.{Located}
use Rattle.bpg_format.specs.Limits.{max_file}
use Rattle.bpg_format.specs.declared.record.Header.{Header}
use Rattle.bpg_format.specs.Tests.{no_forbidden_bit, hevc_allowed}
use Rattle.bpg_format.specs.Read.{read_fields, read_header}

-- a header and the offset after it
abbrev pub header_at : Located Header BytePos → Header × ℕ
header_at x = (x.value, x.next.0)

-- what `read_header` does after the length, which stands at p: the fields begin at `start` and take up the region
unfoldable pub fields_in : (region : List ℕ) (depth p start : ℕ) → Outcome (Decoded ℕ Header)
fields_in region depth p start =
    read_fields p (8 * start) (unpack (drop start region)) >>= λ fields.
    guard (is_padding fields.rest) 15 p >>= λ _.
    guard (no_forbidden_bit fields.value) 17 p >>= λ _.
    guard (hevc_allowed depth fields.value) 16 p >>= λ _.
    ok (decoded fields.value (length region) (drop (length region) region))

-- the header at p of a file; one that is longer than a file may be is 1 at 0
unfoldable pub header_in : List ℕ → (depth p : ℕ) → Outcome (Decoded ℕ Header)
header_in file depth p = guard (leb (length file) max_file) 1 0 >>= λ _. read_header depth p (drop p file)
