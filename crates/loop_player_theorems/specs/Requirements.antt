-- What `frame_at_time` answers, with the first library's theorems; `proofs/Requirements` proves it. The player itself cites only what calls promise.
use Rattle.std.specs.Prelude.{◌≡◌, false, List, ◌≢◌, ℕ}
use Rattle.bpg_codec.specs.Outcome.{ok}
use Rattle.bpg_format.specs.Content.{Content}
use Rattle.bpg_format.specs.Syntax.{file_of}
use Rattle.bpg_format.specs.Rules.{Rules, has_animation}
use Rattle.bpg_frames.specs.Calls.{frames_of, frame_count}
use Rattle.loop_player_file.specs.Files.{refused_shown, shown_at}

pub record Together : Type 0 where
  -- "the first library's refusals with their offsets": each of them, as `frame_count` gives it
  pub refused : (f : List ℕ) (ms : ℕ) → (frame_count f).status ≢ 0 → shown_at f ms ≡ refused_shown (frame_count f).status (frame_count f).offset
  -- "A still file goes by its record's numbers: without tag 5 its period is 0, and so 37"
  pub without-control : (c : Content) → Rules c → has_animation c.extensions ≡ false
      → (ds : List ℕ) → frames_of (file_of c) ≡ ok ds → (ms : ℕ) → shown_at (file_of c) ms ≡ refused_shown 37 0
