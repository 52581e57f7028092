-- The loop player (request 12/13): "given an animated file's control numbers and up to 256 durations, which frame, from 0, stands at tick n, a tick
-- being one frame period?" L is `loops`, T is `total ds`.
use Rattle.std.specs.Prelude.{Bool, true, false, cond, ◌&&◌, List, [], ◌∷◌, ℕ, suc, ◌+◌, ◌-◌, ◌*◌, ◌/◌, ◌%◌, ltb, leb, length}
use Rattle.loop_player.specs.declared.answer.FrameAt.{FrameAt}
use Rattle.loop_player.specs.declared.answer.TickCount.{TickCount}

-- ---- one round

-- the ticks of a round
unfoldable pub total : List ℕ → ℕ
total [] = 0
total (d ∷ ds) = d + total ds

-- "the frame whose span holds" r: the first, or one of those after it, whose spans start where the first one's ends. Where r is not below the
-- total, the number of frames
unfoldable pub frame_in : List ℕ → (r : ℕ) → ℕ
frame_in [] r = 0
frame_in (d ∷ ds) r = cond (ltb r d) 0 (suc (frame_in ds (r - d)))

-- ---- rounds

-- "With loop count L above 0 and total T, from tick L·T on .. "ended" is said."
abbrev pub ended_by : (loops round tick : ℕ) → Bool
ended_by loops round tick = ltb 0 loops && leb (loops * round) tick

unfoldable pub ended_at : (loops : ℕ) → List ℕ → (tick : ℕ) → Bool
ended_at loops ds tick = ended_by loops (total ds) tick

-- "the last frame stays .. Otherwise the frame whose span holds n modulo T is shown."
unfoldable pub frame_at : (loops : ℕ) → List ℕ → (tick : ℕ) → ℕ
frame_at loops ds tick = cond (ended_at loops ds tick) (length ds - 1) (frame_in ds (tick % total ds))

-- "Milliseconds become ticks as the whole part of ms·den/(1000·num)"
unfoldable pub ticks_of : (ms num den : ℕ) → ℕ
ticks_of ms num den = ms * den / (1000 * num)

-- ---- "Refusals: 37, no frame, above 256 frames, a duration 0 or a period number 0"

abbrev pub period_known : (num den : ℕ) → Bool
period_known num den = ltb 0 num && ltb 0 den

abbrev pub frames_known : (count : ℕ) → Bool
frames_known n = ltb 0 n && leb n 256

unfoldable pub all_positive : List ℕ → Bool
all_positive [] = true
all_positive (d ∷ ds) = ltb 0 d && all_positive ds

unfoldable pub playable : (num den : ℕ) → List ℕ → Bool
playable num den ds = period_known num den && (frames_known (length ds) && all_positive ds)

-- ---- the answers: "given before all else, with frame or ticks 0 and not ended"

abbrev pub refused_frame : FrameAt
refused_frame = record { status = 37; frame = 0; ended = false }

unfoldable pub frame_answer : (loops num den : ℕ) → List ℕ → (tick : ℕ) → FrameAt
frame_answer loops num den ds tick =
    cond (playable num den ds) (record { status = 0; frame = frame_at loops ds tick; ended = ended_at loops ds tick }) refused_frame

abbrev pub refused_ticks : TickCount
refused_ticks = record { status = 37; ticks = 0 }

unfoldable pub ticks_answer : (ms num den : ℕ) → TickCount
ticks_answer ms num den = cond (period_known num den) (record { status = 0; ticks = ticks_of ms num den }) refused_ticks
