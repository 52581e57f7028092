-- What the calls answer: the reader's refusals, those of the units, 25 at the first data byte, then 20 at 0 (request 1/13).
use Rattle.std.specs.Prelude.{Bool, ◌||◌, List, [], ℕ, eqb, leb, length}
use Rattle.bpg_codec.specs.Outcome.{Outcome, ok, ◌>>=◌, guard}
use Rattle.bpg_format.specs.Records.{read_file}
use Rattle.bpg_format.specs.Parts.{record_in, data_of}
use Rattle.bpg_format.specs.Write.{written_buffer}
use Rattle.bpg_nal_units.specs.Units.{Nal, units}
use Rattle.bpg_frame_units.specs.declared.count.Frames.{Frames}
use Rattle.bpg_frame_units.specs.Frames.{nothing, frames_from, enough}
use Rattle.bpg_frame_units.specs.Answers.{frames_answer}

module _ (f : List ℕ) where
  -- the first data byte
  abbrev pub data_at : ℕ
  data_at = (record_in f).«data».start

  abbrev pub alpha_in : Bool
  alpha_in = (record_in f).alpha1_flag || (record_in f).alpha2_flag

  abbrev pub units_in : List Nal
  units_in = units data_at (data_of f)

  -- how long each frame of a file is shown
  unfoldable pub frames_of : Outcome (List ℕ)
  frames_of =
      guard (eqb (read_file f).status 0) (read_file f).status (read_file f).offset >>= λ _.
      frames_from alpha_in units_in nothing [] >>= λ ds.
      guard (enough (record_in f).animation_flag (length ds)) 25 data_at >>= λ _.
      ok ds

unfoldable pub frame_count : List ℕ → Frames
frame_count f = frames_answer (frames_of f)

-- "20 the lent list is shorter than the count"
abbrev pub list_outcome : (capacity : ℕ) → List ℕ → Outcome (List ℕ)
list_outcome capacity f = frames_of f >>= λ ds. guard (leb (length ds) capacity) 20 0 >>= λ _. ok ds

unfoldable pub frames_call : (f list : List ℕ) → Frames
frames_call f list = frames_answer (list_outcome (length list) f)

-- the list afterwards
unfoldable pub frames_list : (f list : List ℕ) → List ℕ
frames_list f list = written_buffer (list_outcome (length list) f) list
