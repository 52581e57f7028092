-- What a screen is answered, over the definition that the call's contract cites. `proofs/Requirements` proves it. `frames_of` is what `frames` and
-- `frame_count` promise of a file: its durations, or the first library's refusal and its offset.
use Rattle.std.specs.Prelude.{◌≡◌, List, ◌⊎◌, ◌≢◌, ℕ, ◌<◌, length}
use Rattle.bpg_codec.specs.Outcome.{ok, error}
use Rattle.bpg_format.specs.Records.{read_file}
use Rattle.bpg_frames.specs.Calls.{frames_of}
use Rattle.loop_player_file.specs.Files.{refused_shown, played_by, shown_at}

pub record Answers : Type 0 where
  -- a file with frames: the player's answer, to the record's numbers, all its durations and the ticks of that time
  pub played : (f ds : List ℕ) (ms : ℕ) → frames_of f ≡ ok ds → shown_at f ms ≡ played_by (read_file f).«record» ds ms
  -- "the first library's refusals with their offsets"; that 0 and 20 are none of them is `loop_player_theorems`
  pub refused : (f : List ℕ) (ms s o : ℕ) → frames_of f ≡ error s o → s ≢ 0 → s ≢ 20 → shown_at f ms ≡ refused_shown s o

-- "then 37; more than 256 frames is 37, never 20", with frame 0 and not ended
pub record Refusals : Type 0 where
  pub zeros : (f : List ℕ) (ms : ℕ) → (shown_at f ms).status ≢ 0 → shown_at f ms ≡ refused_shown (shown_at f ms).status (shown_at f ms).offset
  pub then : (f ds : List ℕ) (ms : ℕ) → frames_of f ≡ ok ds → ((shown_at f ms).status ≡ 0) ⊎ (shown_at f ms ≡ refused_shown 37 0)
  pub too_many : (f ds : List ℕ) (ms : ℕ) → frames_of f ≡ ok ds → 256 < length ds → shown_at f ms ≡ refused_shown 37 0
  pub never-20 : (f : List ℕ) (ms : ℕ) → (shown_at f ms).status ≢ 20
  -- a record without a period, as that of a still file without the animation control
  pub no-period : (f ds : List ℕ) (ms : ℕ) → frames_of f ≡ ok ds → (read_file f).«record».frame_period_num ≡ 0 → shown_at f ms ≡ refused_shown 37 0
