-- What reading the headers of a file answers (document 01, "Order of the file", item 6): the alpha plane's first, then the colour's.
use Rattle.std.specs.Prelude.{Bool, List, ℕ, drop}
use Rattle.bpg_codec.specs.Select.{select}
use Rattle.bpg_codec.specs.Outcome.{Outcome, ok, ◌>>=◌, Decoded, decoded}
use Rattle.bpg_bytes.specs.declared.position.BytePos.{BytePos}
use Rattle.bpg_bytes.specs.declared.position.Located.{Located}
use Rattle.bpg_format.specs.declared.record.Header.{Header}
use Rattle.bpg_format.specs.Zero.{zero_header}
use Rattle.bpg_read_headers.specs.declared.headers.Headers.{Headers}
use Rattle.bpg_read_headers.specs.Headers.{header_in}

-- both headers and the offset after them
abbrev pub headers_at : Located Headers BytePos → Header × Header × ℕ
headers_at x = (x.value.alpha, x.value.color, x.next.0)

abbrev pub alpha_in : List ℕ → (present : Bool) (depth p : ℕ) → Outcome (Decoded ℕ Header)
alpha_in file present depth p = select present (header_in file depth p) (ok (decoded zero_header p (drop p file)))

-- the headers from p on, and the offset after them
unfoldable pub headers_in : List ℕ → (has_alpha : Bool) (depth p : ℕ) → Outcome (Header × Header × ℕ)
headers_in file has_alpha depth p =
    alpha_in file has_alpha depth p >>= λ alpha.
    header_in file depth alpha.next >>= λ color.
    ok (alpha.value, color.value, color.next)
