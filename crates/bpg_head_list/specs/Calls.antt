-- The head call over a list of numbers, for callers that do not have a head's type. A list is a buffer: a success writes it from the start and
-- leaves the rest, a refusal leaves all of it.
use Rattle.std.specs.Prelude.{List, ℕ, leb, eqb, length}
use Rattle.bpg_codec.specs.Outcome.{Outcome, ok, ◌>>=◌, guard}
use Rattle.bpg_format.specs.declared.answer.Written.{Written}
use Rattle.bpg_format.specs.Write.{written_answer, written_buffer}
use Rattle.bpg_head_rules.specs.declared.HeadReading.{HeadReading}
use Rattle.bpg_head_rules.specs.Calls.{head_file, head_numbers}

-- the head's own refusals, then 20 for a list shorter than 12
abbrev pub head_listed : (capacity : ℕ) → HeadReading → Outcome (List ℕ)
head_listed capacity r =
    guard (eqb r.status 0) r.status r.offset >>= λ _.
    guard (leb 12 capacity) 20 0 >>= λ _.
    ok (head_numbers r.head)

unfoldable pub head_answer : (f numbers : List ℕ) → Written
head_answer f numbers = written_answer (head_listed (length numbers) (head_file f))

unfoldable pub head_buffer : (f numbers : List ℕ) → List ℕ
head_buffer f numbers = written_buffer (head_listed (length numbers) (head_file f)) numbers
