-- What `frames` leaves in its list, by the definitions that its promise cites; and the answer from what the calls promise.
use mathlib.Core.Path.{◌≡◌}
use mathlib.Core.Bool.{Bool, true, false}
use mathlib.Core.List.{List}
use mathlib.Core.Logic.{◌≢◌}
use Prim.Native.Nat.{ℕ, ◌≤◌}
use native.Mathlib.Omega.{arith}
use lib.Dec.{leb}
use borrow.Author.Tests.{eq-eqb, ne_eqb}
use lib.ListN.{length, take, drop, length-append, length-take}
use Rattle.bpg_codec.specs.Outcome.{Outcome, ok, error, ◌>>=◌, guard}
use Rattle.bpg_format.specs.Write.{written_buffer}
use Rattle.bpg_format.specs.declared.answer.Reading.{Reading}
use Rattle.bpg_format.specs.Records.{read_file}
use Rattle.bpg_frame_units.specs.declared.count.Frames.{Frames}
use Rattle.bpg_frame_units.specs.Answers.{frames_answer}
use Rattle.bpg_frames.specs.Calls.{frames_of, frames_call, frames_list}
use Rattle.loop_player_file.specs.Files.{refusal_by, played_by, room, shown_at}

-- the durations that are counted are there
pub count_fits : (f list : List ℕ) → (frames_call f list).count ≤ length (frames_list f list)
unfolding frames_call frames_list
count_fits f list = by (frames_of f)
  where
    Fits : Outcome (List ℕ) → Type 0
    Fits o = (frames_answer o).count ≤ length (written_buffer o list)

    sized : (ds : List ℕ) (b : Bool) → Fits (guard b 20 0 >>= λ _. ok ds)
    sized ds true = rw (length-append ds (drop (length ds) list)) (omega arith)
    sized ds false = omega arith

    by : (o : Outcome (List ℕ)) → Fits (o >>= λ ds. guard (leb (length ds) (length list)) 20 0 >>= λ _. ok ds)
    by (ok ds) = sized ds (leb (length ds) (length list))
    by (error s o) = omega arith

module _ (f : List ℕ) (c : Frames) (list : List ℕ) (e : c ≡ frames_call f room) (l : list ≡ frames_list f room) where
  pub room-counted : c.count ≤ length list
  room-counted = rw (e, l) (count_fits f room)

  pub part-counted : c.count ≡ length (take c.count list)
  part-counted = let h = room-counted in rw length-take (omega arith)

  pub refused-answer : (ms : ℕ) → c.status ≢ 0 → refusal_by c.status c.offset ≡ shown_at f ms
  unfolding shown_at
  refused-answer ms n = rw (← e, ne_eqb c.status 0 n)

  pub played-answer : (ms : ℕ) → c.status ≡ 0 → (r : Reading) → r ≡ read_file f → played_by r.«record» (take c.count list) ms ≡ shown_at f ms
  unfolding shown_at
  played-answer ms z r g = rw (← e, ← l, ← g, eq-eqb c.status 0 z)
