-- What listing a reading answers. A list is a buffer: a success writes it from the start and leaves the rest, a refusal leaves all of it
-- (document 01: a lent list is room too).
use Rattle.std.specs.Prelude.{List, ℕ, leb, eqb, length}
use Rattle.bpg_codec.specs.Outcome.{Outcome, ok, ◌>>=◌, guard}
use Rattle.bpg_format.specs.declared.answer.Reading.{Reading}
use Rattle.bpg_format.specs.Records.{used_entries}
use Rattle.bpg_export_list.specs.Numbers.{list_length, reading_numbers}

-- the file's refusals, then 20 for a list that is too short for the fixed numbers and the entries in use
abbrev pub listed : (capacity : ℕ) → Reading → Outcome (List ℕ)
listed capacity r =
    guard (eqb r.status 0) r.status r.offset >>= λ _.
    guard (leb (list_length (length (used_entries r.«record»))) capacity) 20 0 >>= λ _.
    ok (reading_numbers r)
