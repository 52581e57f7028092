-- The frame of a file that stands at a time: the loop player (request 12/13) over what `read` and `frames` promise.
use Rattle.std.specs.Prelude.{false, cond, List, ℕ, eqb, take, replicate}
use Rattle.bpg_format.specs.declared.record.Record.{Record}
use Rattle.bpg_format.specs.Records.{read_file}
use Rattle.bpg_frame_units.specs.declared.count.Frames.{Frames}
use Rattle.bpg_frames.specs.Calls.{frames_call, frames_list}
use Rattle.loop_player.specs.declared.answer.FrameAt.{FrameAt}
use Rattle.loop_player.specs.Player.{frame_answer, ticks_answer}
use Rattle.loop_player_file.specs.declared.shown.Shown.{Shown}

abbrev pub refused_shown : (status offset : ℕ) → Shown
refused_shown s o = record { status = s; offset = o; frame = 0; ended = false }

-- a refusal of `frames`, where its list holds 256 durations: above 256 frames, which there is 20, is 37
abbrev pub refusal_by : (status offset : ℕ) → Shown
refusal_by s o = cond (eqb s 20) (refused_shown 37 0) (refused_shown s o)

-- the player's answer; 37 is at 0
abbrev pub answered : FrameAt → Shown
answered a = record { status = a.status; offset = 0; frame = a.frame; ended = a.ended }

abbrev pub played_at : (loops num den : ℕ) → List ℕ → (ms : ℕ) → Shown
played_at loops num den ds ms = answered (frame_answer loops num den ds (ticks_answer ms num den).ticks)

-- by a record's numbers: in a still file without the animation control they are 0
abbrev pub played_by : Record → List ℕ → (ms : ℕ) → Shown
played_by r ds ms = played_at r.loop_count r.frame_period_num r.frame_period_den ds ms

-- ---- the call

-- the list that is lent to `frames`
abbrev pub room : List ℕ
room = replicate 256 0

module _ (f : List ℕ) where
  abbrev pub counted : Frames
  counted = frames_call f room

  abbrev pub durations_in : List ℕ
  durations_in = take counted.count (frames_list f room)

  unfoldable pub shown_at : (ms : ℕ) → Shown
  shown_at ms = cond (eqb counted.status 0) (played_by (read_file f).«record» durations_in ms) (refusal_by counted.status counted.offset)
