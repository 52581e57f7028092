-- What a screen is answered, proved.
use mathlib.Core.Path.{◌≡◌, refl, sym, ap, ◌∙◌}
use mathlib.Core.Bool.{Bool, true, false, cond, true≢false}
use mathlib.Core.List.{List}
use mathlib.Core.Logic.{◌⊎◌, inl, inr, ◌≢◌}
use Prim.Native.Nat.{ℕ}
use native.Mathlib.Omega.{arith}
use borrow.Author.Tests.{eq-eqb, ne_eqb, lt-leb}
use lib.Dec.{eqb, ltb, leb}
use lib.ListN.{length, drop}
use lib.Seq.{take-append_seam}
use Rattle.bpg_codec.specs.Outcome.{ok, error}
use Rattle.bpg_format.specs.declared.record.Record.{Record}
use Rattle.bpg_format.specs.Records.{read_file}
use Rattle.bpg_frames.specs.Calls.{frames_of, frames_call, frames_list}
use Rattle.loop_player.specs.declared.answer.FrameAt.{FrameAt}
use Rattle.loop_player.specs.Player.{playable, refused_frame, frame_answer}
use Rattle.loop_player.proofs.Laws.{and_no, no_frames, no-period, refused-answer}
use Rattle.loop_player_file.specs.declared.shown.Shown.{Shown}
use Rattle.loop_player_file.specs.Files.{refused_shown, answered, played_by, room, shown_at}
use Rattle.loop_player_file.specs.Requirements.{Answers, Refusals}

-- ---- the player refuses

module _ (r : Record) (ds : List ℕ) (ms : ℕ) where
  unplayable : playable r.frame_period_num r.frame_period_den ds ≡ false → played_by r ds ms ≡ refused_shown 37 0
  unplayable e = ap answered (sym (refused-answer r.frame_period_num r.frame_period_den ds r.loop_count _ e))

  many-refused : leb (length ds) 256 ≡ false → played_by r ds ms ≡ refused_shown 37 0
  many-refused e = unplayable (no_frames r.frame_period_num r.frame_period_den ds (and_no (ltb 0 (length ds)) e))

-- ---- the answer, from the outcome that `frames` promises

module _ (f : List ℕ) (ms : ℕ) where
  sized : (ds : List ℕ) → frames_of f ≡ ok ds → (b : Bool) → leb (length ds) 256 ≡ b → shown_at f ms ≡ played_by (read_file f).«record» ds ms
  unfolding shown_at frames_call frames_list
  sized ds e true h = rw (e, h, take-append_seam ds (drop (length ds) room))
  sized ds e false h = rw (e, h) (sym (many-refused (read_file f).«record» ds ms h))

  played : (ds : List ℕ) → frames_of f ≡ ok ds → shown_at f ms ≡ played_by (read_file f).«record» ds ms
  played ds e = sized ds e (leb (length ds) 256) refl

  refused : (s o : ℕ) → frames_of f ≡ error s o → s ≢ 0 → s ≢ 20 → shown_at f ms ≡ refused_shown s o
  unfolding shown_at frames_call
  refused s o e n m = rw (e, ne_eqb s 0 n, ne_eqb s 20 m)

-- ---- the player's answers have status 0 or are refused

one_of_two : (a : FrameAt) → (a.status ≡ 0) ⊎ (a ≡ refused_frame) → ((answered a).status ≡ 0) ⊎ (answered a ≡ refused_shown 37 0)
one_of_two a (inl z) = inl z
one_of_two a (inr e) = inr (ap answered e)

frame-or-refused : (loops num den : ℕ) (ds : List ℕ) (n : ℕ) → ((frame_answer loops num den ds n).status ≡ 0) ⊎ (frame_answer loops num den ds n ≡ refused_frame)
unfolding frame_answer
frame-or-refused loops num den ds n = by (playable num den ds) _ refl
  where
    by : (b : Bool) (x : FrameAt) → x.status ≡ 0 → ((cond b x refused_frame).status ≡ 0) ⊎ (cond b x refused_frame ≡ refused_frame)
    by true x e = inl e
    by false x e = inr refl

pub answers : Answers
answers = record { played = λ f ds ms e. played f ms ds e; refused = λ f ms s o e n m. refused f ms s o e n m }

-- ---- what every answer keeps: never 20, and zeros where it is refused

abbrev Kept : Shown → Type 0
Kept x = (x.status ≢ 20) × (x.status ≢ 0 → x ≡ refused_shown x.status x.offset)

played-kept : (x : Shown) → (x.status ≡ 0) ⊎ (x ≡ refused_shown 37 0) → Kept x
played-kept x (inl z) = (λ e. omega arith, λ n. absurd (n z))
played-kept x (inr e) = rw e (λ z. omega arith, λ n. refl)

refused-kept : (s o : ℕ) (b : Bool) → eqb s 20 ≡ b → Kept (cond b (refused_shown 37 0) (refused_shown s o))
refused-kept s o true e = (λ z. omega arith, λ n. refl)
refused-kept s o false e = (λ z. absurd (true≢false (sym (eq-eqb s 20 z) ∙ e)), λ n. refl)

either-kept : (b : Bool) (x y : Shown) → Kept x → Kept y → Kept (cond b x y)
either-kept true x y p q = p
either-kept false x y p q = q

kept : (f : List ℕ) (ms : ℕ) → Kept (shown_at f ms)
unfolding shown_at
kept f ms =
    either-kept (eqb (frames_call f room).status 0) _ _ (played-kept _ (one_of_two _ (frame-or-refused _ _ _ _ _)))
    (refused-kept (frames_call f room).status (frames_call f room).offset (eqb (frames_call f room).status 20) refl)

pub refusals : Refusals
refusals =
    record {
      zeros = λ f ms n. (kept f ms).1 n;
      then = λ f ds ms e. rw (played f ms ds e) (one_of_two _ (frame-or-refused _ _ _ _ _));
      too_many = λ f ds ms e h. played f ms ds e ∙ many-refused (read_file f).«record» ds ms (lt-leb (length ds) 256 h);
      never-20 = λ f ms. (kept f ms).0;
      no-period = λ f ds ms e z.
          let r = (read_file f).«record» in
          played f ms ds e ∙ unplayable r ds ms (no-period r.frame_period_num r.frame_period_den ds (rw z));
    }
