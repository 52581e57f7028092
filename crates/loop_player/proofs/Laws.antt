-- Equations of the definitions, and the laws that the loops cite.
use mathlib.Core.Path.{◌≡◌, refl, sym, ap, ◌∙◌}
use mathlib.Core.Bool.{Bool, true, false, ◌&&◌, false≢true, and_assoc}
use mathlib.Core.List.{List, [], ◌∷◌}
use Prim.Native.Nat.{ℕ, suc, ◌+◌, ◌-◌, ◌*◌, ◌%◌, ◌≤◌, ◌<◌}
use native.Mathlib.Numerals.{add-one}
use native.Mathlib.Omega.{arith}
use native.Mathlib.Nat.{mul-le-mul}
use borrow.Author.Tests.{lt-ltb, le-ltb, ltb-true}
use lib.Dec.{ltb}
use lib.ListN.{drop_of_length-le, length, drop, get_or}
use lib.Seq.{drop-cons}
use Rattle.loop_player.specs.Player.{total, all_positive, frame_in, ended_by, ended_at, frame_at, period_known, frames_known, playable, refused_frame, frame_answer}
use Rattle.loop_player.specs.declared.answer.FrameAt.{FrameAt}

-- ---- tests

pub and_left : (a b : Bool) → a && b ≡ true → a ≡ true
and_left true b e = refl
and_left false b e = e

pub and_right : (a b : Bool) → a && b ≡ true → b ≡ true
and_right true b e = e
and_right false b e = absurd (false≢true e)

-- ---- the frame of a tick of the round: in the first span, or past it

pub frame_here : (d : ℕ) (ds : List ℕ) (r : ℕ) → r < d → frame_in (d ∷ ds) r ≡ 0
unfolding frame_in
frame_here d ds r h = rw (lt-ltb r d h)

pub frame_past : (d : ℕ) (ds : List ℕ) (r : ℕ) → d ≤ r → frame_in (d ∷ ds) r ≡ suc (frame_in ds (r - d))
unfolding frame_in
frame_past d ds r h = rw (le-ltb r d h)

pub frame-none : (r : ℕ) → frame_in [] r ≡ 0
unfolding frame_in
frame-none r = refl

-- ---- the loop that adds up: one more, all

module _ (l : List ℕ) (i : ℕ) where
  pub total-more : (sum n : ℕ) → i < length l → sum + total (drop i l) ≡ n → (sum + get_or l i 0) + total (drop (i + 1) l) ≡ n
  unfolding total
  total-more sum n h e = let e' = rw (drop-cons l i 0 h) at e in rw add-one (omega arith)

  pub total-all : (sum n : ℕ) → length l ≤ i → sum + total (drop i l) ≡ n → sum ≡ n
  unfolding total
  total-all sum n h e = let k = drop_of_length-le l h in let e' : sum + 0 ≡ n = rw k at e in omega arith

  pub positive-more : (a b : Bool) → i < length l → a && all_positive (drop i l) ≡ b → (a && ltb 0 (get_or l i 0)) && all_positive (drop (i + 1) l) ≡ b
  unfolding all_positive
  positive-more a b h e = rw add-one (and_assoc a _ _ ∙ (rw (drop-cons l i 0 h) at e))

  pub positive-all : (a b : Bool) → length l ≤ i → a && all_positive (drop i l) ≡ b → a ≡ b
  unfolding all_positive
  positive-all a b h e = let k = drop_of_length-le l h in and-true a ∙ (rw k at e)
    where
      and-true : (a : Bool) → a ≡ a && true
      and-true true = refl
      and-true false = refl

  -- ---- the loop that looks for the span: one more, found, none

  pub find-more : (left n : ℕ) → i < length l → get_or l i 0 ≤ left → i + frame_in (drop i l) left ≡ n
      → (i + 1) + frame_in (drop (i + 1) l) (left - get_or l i 0) ≡ n
  find-more left n h k e =
      let e' = rw (drop-cons l i 0 h) at e in
      let f = frame_past (get_or l i 0) (drop (suc i) l) left k in
      rw add-one (omega arith)

  pub find-here : (left n : ℕ) → i < length l → left < get_or l i 0 → i + frame_in (drop i l) left ≡ n → i ≡ n
  find-here left n h k e =
      let e' = rw (drop-cons l i 0 h) at e in
      let f = frame_here (get_or l i 0) (drop (suc i) l) left k in
      omega arith

  pub find_none : (left n : ℕ) → length l ≤ i → i + frame_in (drop i l) left ≡ n → i ≡ n
  find_none left n h e =
      let e' = rw (drop_of_length-le l h) at e in
      let f = frame-none left in
      omega arith

-- ---- products that fit: a loop count and a round, milliseconds and a period number

pub end_fits : (a b : ℕ) → a < 65536 → b < 16777216 → a * b ≤ 65535 * 16777215
end_fits a b h k = mul-le-mul {n₂ = 65535} {m₂ = 16777215} (omega arith) (omega arith)

pub time-fits : (a b : ℕ) → a < 4294967296 → b < 65536 → a * b ≤ 4294967295 * 65535
time-fits a b h k = mul-le-mul {n₂ = 4294967295} {m₂ = 65535} (omega arith) (omega arith)

-- ---- the answers, from what the tests say

-- a round has ticks
pub total-positive : (ds : List ℕ) → 0 < length ds → all_positive ds ≡ true → 0 < total ds
unfolding total all_positive
total-positive [] h e = omega arith
total-positive (d ∷ ds) h e = let k = ltb-true 0 d (and_left _ (all_positive ds) e) in omega arith

pub and_no : (a : Bool) {b : Bool} → b ≡ false → a && b ≡ false
and_no true e = e
and_no false e = refl

module _ (num den : ℕ) (ds : List ℕ) where
  pub no-period : period_known num den ≡ false → playable num den ds ≡ false
  unfolding playable
  no-period e = rw e

  pub no_frames : frames_known (length ds) ≡ false → playable num den ds ≡ false
  unfolding playable
  no_frames e = and_no (period_known num den) (rw e)

  pub no-duration : all_positive ds ≡ false → playable num den ds ≡ false
  unfolding playable
  no-duration e = and_no (period_known num den) (and_no (frames_known (length ds)) e)

  pub all_known : period_known num den ≡ true → frames_known (length ds) ≡ true → all_positive ds ≡ true → playable num den ds ≡ true
  unfolding playable
  all_known e f g = rw (e, f, g)

  module _ (loops tick : ℕ) where
    pub refused-answer : playable num den ds ≡ false → refused_frame ≡ frame_answer loops num den ds tick
    unfolding frame_answer
    refused-answer e = rw e

    -- from the ticks of a round, and whether all are over
    module _ (round : ℕ) (over : Bool) (p : playable num den ds ≡ true) (r : round ≡ total ds) (o : over ≡ ended_by loops round tick) where
      over-is : over ≡ ended_at loops ds tick
      unfolding ended_at
      over-is = o ∙ ap (λ (t : ℕ). ended_by loops t tick) r

      pub last-answer : over ≡ true → (f : ℕ) → f ≡ length ds - 1 → ◌≡◌ {A = FrameAt} (record { status = 0; frame = f; ended = true }) (frame_answer loops num den ds tick)
      unfolding frame_answer frame_at
      last-answer h f g = rw (p, sym over-is ∙ h, g)

      pub span-answer : over ≡ false → (f : ℕ) → f ≡ frame_in ds (tick % round)
          → ◌≡◌ {A = FrameAt} (record { status = 0; frame = f; ended = false }) (frame_answer loops num den ds tick)
      unfolding frame_answer frame_at
      span-answer h f g = rw (p, sym over-is ∙ h, g, r)
