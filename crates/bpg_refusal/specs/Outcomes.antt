-- What an answer says of decoding: the value, or the number and the place of the refusal.
use Rattle.std.specs.Prelude.{Result, Ok, Err}
use Rattle.bpg_codec.specs.Outcome.{Outcome, ok, error}
use Rattle.bpg_refusal.specs.declared.Reason.{Reason}
use Rattle.bpg_refusal.specs.declared.Refusal.{Refusal}
use Rattle.bpg_refusal.specs.Numbers.{reason_number}

-- `value` says what the answer's value stands for
abbrev pub outcome : {A B : Type 0} → (value : A → B) → Result A Refusal → Outcome B
outcome value (Ok x) = ok (value x)
outcome value (Err r) = error (reason_number r.reason) r.offset.0

-- the same where every refusal is at place 0, so that the reason alone is answered
abbrev pub outcome_at_zero : {A : Type 0} → Result A Reason → Outcome A
outcome_at_zero (Ok x) = ok x
outcome_at_zero (Err r) = error (reason_number r) 0
