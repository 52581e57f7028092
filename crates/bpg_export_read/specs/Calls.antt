-- What reading answers to C and Rust, a record and a head being lists of numbers.
use Rattle.std.specs.Prelude.{List, ℕ, length}
use Rattle.bpg_format.specs.declared.answer.Reading.{Reading}
use Rattle.bpg_format.specs.declared.answer.Written.{Written}
use Rattle.bpg_format.specs.Records.{read_file}
use Rattle.bpg_format.specs.Write.{written_answer, written_buffer}
use Rattle.bpg_reader.specs.Calls.{body_list}
use Rattle.bpg_export_list.specs.Calls.{listed}

-- the reading's refusals, then 20 for a list that is too short: status, offset and how many numbers were written; the list after it
abbrev pub listed_answer : Reading → (numbers : List ℕ) → Written
listed_answer r numbers = written_answer (listed (length numbers) r)

abbrev pub listed_numbers : Reading → (numbers : List ℕ) → List ℕ
listed_numbers r numbers = written_buffer (listed (length numbers) r) numbers

unfoldable pub read_answer : (f numbers : List ℕ) → Written
read_answer f numbers = listed_answer (read_file f) numbers

unfoldable pub read_numbers : (f numbers : List ℕ) → List ℕ
read_numbers f numbers = listed_numbers (read_file f) numbers

-- given the list of a head: 21 among the refusals (request 9/13)
unfoldable pub body_answer : (head f numbers : List ℕ) → Written
body_answer head f numbers = listed_answer (body_list head f) numbers

unfoldable pub body_numbers : (head f numbers : List ℕ) → List ℕ
body_numbers head f numbers = listed_numbers (body_list head f) numbers
