-- What undoing and redoing answer, and what they leave in the buffer: 22 where a rule is broken, then 20 where the buffer is too small, at offset 0.
use Rattle.std.specs.Prelude.{List, ℕ, leb, length}
use Rattle.bpg_codec.specs.Outcome.{Outcome, ok, ◌>>=◌, guard}
use Rattle.bpg_format.specs.declared.answer.Written.{Written}
use Rattle.bpg_format.specs.Write.{written_answer, written_buffer}
use Rattle.bpg_nal_emulation.specs.Emulation.{unescape, escape, keeps_rules}

abbrev pub unescape_outcome : (capacity : ℕ) → List ℕ → Outcome (List ℕ)
unescape_outcome capacity u =
    guard (keeps_rules u) 22 0 >>= λ _.
    guard (leb (length (unescape u)) capacity) 20 0 >>= λ _.
    ok (unescape u)

unfoldable pub unescape_answer : (unit out : List ℕ) → Written
unescape_answer u out = written_answer (unescape_outcome (length out) u)

unfoldable pub unescape_buffer : (unit out : List ℕ) → List ℕ
unescape_buffer u out = written_buffer (unescape_outcome (length out) u) out

abbrev pub escape_outcome : (capacity : ℕ) → List ℕ → Outcome (List ℕ)
escape_outcome capacity l = guard (leb (length (escape l)) capacity) 20 0 >>= λ _. ok (escape l)

unfoldable pub escape_answer : (bytes out : List ℕ) → Written
escape_answer l out = written_answer (escape_outcome (length out) l)

unfoldable pub escape_buffer : (bytes out : List ℕ) → List ℕ
escape_buffer l out = written_buffer (escape_outcome (length out) l) out
