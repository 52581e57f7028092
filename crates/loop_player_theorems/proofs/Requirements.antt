-- What the two libraries give together holds.
use mathlib.Core.Path.{◌≡◌, refl, sym, ap, ◌∙◌, subst}
use mathlib.Core.Bool.{false}
use mathlib.Core.List.{List}
use mathlib.Core.Logic.{⊎_elim, ◌≢◌}
use Prim.Native.Nat.{ℕ}
use native.Mathlib.Omega.{arith}
use Rattle.bpg_codec.specs.Outcome.{Outcome, ok, error}
use Rattle.bpg_format.specs.declared.answer.Reading.{Reading}
use Rattle.bpg_format.specs.Content.{Content, AnimationControl}
use Rattle.bpg_format.specs.Syntax.{file_of}
use Rattle.bpg_format.specs.Rules.{Rules, has_animation}
use Rattle.bpg_format.specs.Read.{ReadingStatus}
use Rattle.bpg_format.specs.Records.{record_of, read_file}
use Rattle.bpg_format.proofs.Requirements.{refusals, reading}
use Rattle.bpg_nal_units.proofs.Cases.{by_equal}
use Rattle.bpg_frame_units.specs.declared.count.Frames.{Frames}
use Rattle.bpg_frame_units.specs.Answers.{frames_answer}
use Rattle.bpg_frames.specs.Calls.{frames_of, frame_count}
use Rattle.bpg_frames.proofs.Requirements as frames
use Rattle.loop_player_file.specs.Files.{refused_shown, shown_at}
use Rattle.loop_player_file.proofs.Requirements as player
use Rattle.loop_player_theorems.specs.Requirements.{Together}

-- ---- 20 is no refusal of a file

not-read-20 : (s : ℕ) → ReadingStatus s → s ≢ 20
not-read-20 s t e = subst ReadingStatus e t

not-20 : (f : List ℕ) → (frame_count f).status ≢ 0 → (frame_count f).status ≢ 20
not-20 f n e =
    by_equal (read_file f).status 0
    (λ z. ⊎_elim (λ a. let b = a.0 in let c = a.1 in omega arith) (λ a. let b = a.0 in omega arith) ((frames.refusals).then f z n))
    (λ m.
    let a = ap (λ (x : Frames). x.status) ((frames.refusals).read f m) in
    not-read-20 (read_file f).status (refusals.reading-number f m) (sym a ∙ e))

refused : (f : List ℕ) (ms : ℕ) → (frame_count f).status ≢ 0 → shown_at f ms ≡ refused_shown (frame_count f).status (frame_count f).offset
unfolding frame_count
refused f ms n = by (frames_of f) refl n (not-20 f n)
  where
    by : (o : Outcome (List ℕ)) → frames_of f ≡ o → (frames_answer o).status ≢ 0 → (frames_answer o).status ≢ 20
        → shown_at f ms ≡ refused_shown (frames_answer o).status (frames_answer o).offset
    by (ok ds) e a b = absurd (a refl)
    by (error s o) e a b = (player.answers).refused f ms s o e a b

-- ---- the record of a file without the animation control

without-control : (c : Content) → Rules c → has_animation c.extensions ≡ false
    → (ds : List ℕ) → frames_of (file_of c) ≡ ok ds → (ms : ℕ) → shown_at (file_of c) ms ≡ refused_shown 37 0
unfolding record_of
without-control c k h ds e ms =
    let a = ap (λ (r : Reading). r.«record».frame_period_num) (reading.the-answer c k) in
    let z = ap (λ (x : AnimationControl). x.period_num) (k.no-animation h) in
    (player.refusals).no-period (file_of c) ds ms e (a ∙ z)

pub together : Together
together = record { refused = refused; without-control = without-control }
