-- What the inner functions answer.
use Rattle.std.specs.Prelude.{Bool, not, ◌&&◌, ◌||◌, Option, Some, None, List, [], ◌≡◌, ℕ, ◌≤◌, eqb, length, drop, get_or}
use Rattle.bpg_codec.specs.Select.{select}
use Rattle.bpg_codec.specs.Outcome.{Outcome, ok, error, ◌>>=◌}
use Rattle.bpg_nal_units.specs.Units.{units}
use Rattle.bpg_sei.specs.declared.messages.Durations.{Durations}
use Rattle.bpg_sei.specs.Steps.{summary}
use Rattle.bpg_frame_units.specs.declared.kind.Verdict.{Verdict}
use Rattle.bpg_frame_units.specs.declared.wait.Waiting.{Waiting}
use Rattle.bpg_frame_units.specs.declared.count.Frames.{Frames}
use Rattle.bpg_frame_units.specs.Units.{Said}
use Rattle.bpg_frame_units.specs.Frames.{nothing, frames_from}

-- ---- a unit

-- it has a header with a temporal id
pub record Headed (u : List ℕ) : Type 0 where
  pub long : 2 ≤ length u
  pub temporal : get_or u 1 0 ≡ 0 → ⊥

-- the durations by their number and the last
abbrev pub verdict : Said → Verdict
verdict x = record { starts = x.starts; durations = summary x.durations }

abbrev pub verdict_of : Outcome Said → Outcome Verdict
verdict_of o = o >>= λ x. ok (verdict x)

-- refusal 24, by how many durations there are and the last; and by whether one waits before them
abbrev pub settles_by : (waits : Bool) → Durations → Bool
settles_by w d = eqb d.count 0 || (eqb d.count 1 && (not (eqb d.last 0) && not w))

-- what waits, as the rules have it: 0 for none
abbrev pub waits : Option Waiting → Waiting
waits None = nothing
waits (Some w) = w

abbrev pub wait_by : Option Waiting → Verdict → (p : ℕ) → Option Waiting
wait_by w v p =
    select v.starts None (select (eqb v.durations.count 0) w (Some (record { duration = v.durations.last; unit = record { 0 = p } })))

-- ---- the passes

abbrev pub frames_answer : Outcome (List ℕ) → Frames
frames_answer (ok ds) = record { status = 0; offset = 0; count = length ds }
frames_answer (error s o) = record { status = s; offset = o; count = 0 }

abbrev pub refused_frames : (status offset : ℕ) → Frames
refused_frames s o = record { status = s; offset = o; count = 0 }

-- how many durations there are
abbrev pub counted : Outcome (List ℕ) → Outcome ℕ
counted o = o >>= λ ds. ok (length ds)

-- 24: one still waits at the end
abbrev pub ended : (count : ℕ) → Option Waiting → Outcome ℕ
ended n None = ok n
ended n (Some w) = error 24 w.unit.0

-- the frames of the data from p to the end of the file
abbrev pub frames_at : (f : List ℕ) (p : ℕ) (alpha : Bool) → Outcome (List ℕ)
frames_at f p alpha = frames_from alpha (units p (drop p f)) nothing []
