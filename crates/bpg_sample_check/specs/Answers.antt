-- What a call on samples answers, and what it leaves in a buffer.
use Rattle.std.specs.Prelude.{List, ℕ, eqb}
use Rattle.bpg_codec.specs.Select.{select}
use Rattle.bpg_codec.specs.Outcome.{Outcome, ok, error}
use Rattle.bpg_sample_check.specs.declared.answer.Converted.{Converted}

abbrev pub refused_converted : (status offset : ℕ) → Converted
refused_converted s o = record { status = s; offset = o; count = 0 }

abbrev pub answer_of : Outcome ℕ → Converted
answer_of (ok n) = record { status = 0; offset = 0; count = n }
answer_of (error s o) = refused_converted s o

-- the result, or after a refusal what the buffer held
unfoldable pub buffer_after : (status : ℕ) (result held : List ℕ) → List ℕ
buffer_after status result held = select (eqb status 0) result held
