-- What the calls that read a file answer; `read_given` is what the body call (request 9/13) reads.
use Rattle.std.specs.Prelude.{Option, Some, None, Result, Ok, Err, List, ℕ}
use Rattle.bpg_refusal.specs.declared.Refusal.{Refusal}
use Rattle.bpg_refusal.specs.Numbers.{reason_number}
use Rattle.bpg_format.specs.declared.answer.Reading.{Reading}
use Rattle.bpg_format.specs.Records.{answer_of, read_file}
use Rattle.bpg_head_rules.specs.declared.CodedHead.{CodedHead}
use Rattle.bpg_head_rules.specs.Calls.{head_numbers, is_head}
use Rattle.bpg_read_survey.specs.Given.{read_given}

-- what `body` answers: with the head's numbers in a list, and with the head
unfoldable pub body_list : (given f : List ℕ) → Reading
body_list given f = answer_of (read_given (is_head given) f)

abbrev pub body_file : (given : CodedHead) → List ℕ → Reading
body_file given f = body_list (head_numbers given) f

-- for callers that do both: `body`, or `read`
abbrev pub either_reading : (given : Option (List ℕ)) (f : List ℕ) → Reading
either_reading (Some given) f = body_list given f
either_reading None f = read_file f

-- ---- reading's status and offset alone

abbrev pub verdict_of : Reading → ℕ × ℕ
verdict_of r = (r.status, r.offset)

abbrev pub verdict : Result (Unit {0}) Refusal → ℕ × ℕ
verdict (Ok u) = (0, 0)
verdict (Err r) = (reason_number r.reason, r.offset.0)
