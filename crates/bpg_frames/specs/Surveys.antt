-- What the second pass goes by, and a file before anything is stored.
use Rattle.std.specs.Prelude.{Bool, ◌≡◌, List, [], ℕ, ◌≤◌, ◌<◌, ◌^◌, length}
use Rattle.bpg_codec.specs.Outcome.{Outcome, ok, error}
use Rattle.bpg_frame_units.specs.declared.count.Frames.{Frames}
use Rattle.bpg_frame_units.specs.Answers.{counted, frames_at}
use Rattle.bpg_frames.specs.declared.calls.Survey.{Survey}
use Rattle.bpg_frames.specs.Calls.{data_at, alpha_in, frames_of}

abbrev pub value_of : Outcome (List ℕ) → List ℕ
value_of (ok l) = l
value_of (error s o) = []

abbrev pub durations_at : (f : List ℕ) (p : ℕ) (alpha : Bool) → List ℕ
durations_at f p alpha = value_of (frames_at f p alpha)

-- what the second pass goes by: all units were judged and the frames counted, and the list has room
pub record Storable (f : List ℕ) (p : ℕ) (alpha : Bool) (count : ℕ) (list : List ℕ) : Type 0 where
  pub small : length f < 2 ^ 32
  pub start : p ≤ length f
  pub all : frames_at f p alpha ≡ ok (durations_at f p alpha)
  pub counted : count ≡ length (durations_at f p alpha)
  pub room : count ≤ length list

-- ---- a file before anything is stored, or refused

pub record Surveyed (f : List ℕ) (s : Survey) : Type 0 where
  pub count : counted (frames_of f) ≡ ok s.count
  pub start : s.start.0 ≡ data_at f
  pub alpha : s.alpha ≡ alpha_in f

pub record Refused (f : List ℕ) (r : Frames) : Type 0 where
  pub same : frames_of f ≡ error r.status r.offset
  pub none : r.count ≡ 0
