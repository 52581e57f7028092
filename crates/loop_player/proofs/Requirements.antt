-- Request 12/13 holds.
use mathlib.Core.Path.{◌≡◌, refl, sym, ap, ◌∙◌}
use mathlib.Core.Bool.{Bool, true, false, cond, ◌&&◌}
use mathlib.Core.List.{List, [], ◌∷◌}
use mathlib.Core.Logic.{◌⊎◌, inl, inr, ⊎_elim, ◌≢◌}
use Prim.Native.Nat.{ℕ, zero, suc, ◌+◌, ◌-◌, ◌*◌, ◌%◌, ◌^◌, ◌≤◌, ◌<◌}
use native.Mathlib.Nat.{mod-lt, suc-mul}
use native.Mathlib.Omega.{arith}
use borrow.Author.Tests.{ltb-true, leb-true, lt-ltb, le-leb}
use lib.Dec.{eqb, ltb, leb}
use lib.ListN.{length, get_or}
use Rattle.loop_player.specs.declared.answer.FrameAt.{FrameAt}
use Rattle.loop_player.specs.declared.answer.TickCount.{TickCount}
use Rattle.loop_player.specs.Player.{total, all_positive, frame_in, ended_at, frame_at, ticks_of}
use Rattle.loop_player.specs.Player.{period_known, frames_known, playable, refused_frame, frame_answer, refused_ticks, ticks_answer}
use Rattle.loop_player.specs.Requirements.{KnownPeriod, Playable, Refusals, shown, ended, Played, Ended, Spans, Rounds, Loops, Times, Fits}
use Rattle.loop_player.proofs.Laws.{and_left, and_right, total-positive, end_fits, time-fits}
use Rattle.loop_player.proofs.Counting.{count_same}
use Rattle.loop_player.proofs.Spans.{lt-or-le, in_order, at_first, one_by_one, in-range, span-starts, span-ends, span-only, at_last}
use Rattle.loop_player.proofs.Rounds.{ended-from, not-before, never-ended, last-stays, while-playing, round-later, round-shows, round-times}
use Rattle.loop_player.proofs.Times.{ticks-in-order, ticks-whole}

-- ---- the tests and what they mean

period-known : (num den : ℕ) → KnownPeriod num den → period_known num den ≡ true
period-known num den k = rw (lt-ltb 0 num k.numerator, lt-ltb 0 den k.denominator)

known-period : (num den : ℕ) → period_known num den ≡ true → KnownPeriod num den
known-period num den e = record { numerator = ltb-true _ _ (and_left _ (ltb 0 den) e); denominator = ltb-true _ _ (and_right (ltb 0 num) _ e) }

all-positive : (ds : List ℕ) → ((k : ℕ) → k < length ds → 0 < get_or ds k 0) → all_positive ds ≡ true
unfolding all_positive
all-positive [] h = refl
all-positive (d ∷ ds) h = rw (lt-ltb 0 d (h 0 (omega arith))) (all-positive ds (λ k l. h (suc k) (omega arith)))

each-positive : (ds : List ℕ) → all_positive ds ≡ true → (k : ℕ) → k < length ds → 0 < get_or ds k 0
unfolding all_positive
each-positive [] e k h = absurd (omega arith)
each-positive (d ∷ ds) e zero h = ltb-true 0 d (and_left _ (all_positive ds) e)
each-positive (d ∷ ds) e (suc k) h = each-positive ds (and_right (ltb 0 d) (all_positive ds) e) k (omega arith)

plays : (num den : ℕ) (ds : List ℕ) → Playable num den ds → playable num den ds ≡ true
unfolding playable
plays num den ds p =
    rw (period-known num den p.period, lt-ltb 0 (length ds) p.some, le-leb (length ds) 256 p.few) (all-positive ds p.durations)

played : (num den : ℕ) (ds : List ℕ) → playable num den ds ≡ true → Playable num den ds
unfolding playable
played num den ds e =
    let r = and_right (period_known num den) (frames_known (length ds) && all_positive ds) e in
    let f = and_left (frames_known (length ds)) (all_positive ds) r in
    record {
      period = known-period num den (and_left (period_known num den) _ e);
      some = ltb-true _ _ (and_left _ (leb (length ds) 256) f);
      few = leb-true _ _ (and_right (ltb 0 (length ds)) _ f);
      durations = each-positive ds (and_right (frames_known (length ds)) _ r);
    }

-- ---- refusals

accepted : (b : Bool) (x : FrameAt) → x.status ≡ 0 → ((cond b x refused_frame).status ≡ 0) → b ≡ true
accepted true x e z = refl
accepted false x e z = absurd (omega arith)

refused : (b : Bool) (x : FrameAt) → x.status ≡ 0 → (cond b x refused_frame).status ≢ 0 → cond b x refused_frame ≡ refused_frame
refused true x e n = absurd (n e)
refused false x e n = refl

ticks-accepted : (b : Bool) (x : TickCount) → x.status ≡ 0 → ((cond b x refused_ticks).status ≡ 0) → b ≡ true
ticks-accepted true x e z = refl
ticks-accepted false x e z = absurd (omega arith)

ticks-refused : (b : Bool) (x : TickCount) → x.status ≡ 0 → (cond b x refused_ticks).status ≢ 0 → cond b x refused_ticks ≡ refused_ticks
ticks-refused true x e n = absurd (n e)
ticks-refused false x e n = refl

pub refusals : Refusals
unfolding frame_answer ticks_answer
refusals =
    record {
      exactly = λ loops num den ds n. (λ z. played num den ds (accepted (playable num den ds) _ refl z), λ p. rw (plays num den ds p));
      refused = λ loops num den ds n z. refused (playable num den ds) _ refl z;
      ticks-exactly = λ ms num den. (λ z. known-period num den (ticks-accepted (period_known num den) _ refl z), λ k. rw (period-known num den k));
      ticks-refused = λ ms num den z. ticks-refused (period_known num den) _ refl z;
    }

-- ---- a loop that is played

same-or-next : (a b : ℕ) → a ≤ b → b ≤ suc a → (b ≡ a) ⊎ (b ≡ suc a)
same-or-next a b h k = ⊎_elim (λ l. inr (omega arith)) (λ l. inl (omega arith)) (lt-or-le a b)

module _ (loops num den : ℕ) (ds : List ℕ) (p : Playable num den ds) where
  answer-is : (n : ℕ) → frame_answer loops num den ds n ≡ record { status = 0; frame = frame_at loops ds n; ended = ended_at loops ds n }
  unfolding frame_answer
  answer-is n = rw (plays num den ds p)

  shown-is : (n : ℕ) → shown loops num den ds n ≡ frame_at loops ds n
  shown-is n = ap (λ (a : FrameAt). a.frame) (answer-is n)

  ended_is : (n : ℕ) → ended loops num den ds n ≡ ended_at loops ds n
  ended_is n = ap (λ (a : FrameAt). a.ended) (answer-is n)

  positive : all_positive ds ≡ true
  positive = all-positive ds p.durations

  ticks : 0 < total ds
  ticks = total-positive ds p.some positive

  -- the tick of a round, and where it is in that round
  in-round : (j t : ℕ) → Played loops j → t < total ds → shown loops num den ds (j * total ds + t) ≡ frame_in ds t
  in-round j t q h = shown-is (j * total ds + t) ∙ round-shows loops ds j t q h

  last_of : (j : ℕ) → Played loops j → shown loops num den ds (j * total ds + (total ds - 1)) ≡ length ds - 1
  last_of j q = let k = ticks in in-round j (total ds - 1) q (omega arith) ∙ at_last ds positive p.some

  stays : (l : ℕ) → l ≡ loops → 0 < l → shown loops num den ds (l * total ds - 1) ≡ length ds - 1
  stays zero e h = absurd (omega arith)
  stays (suc j) e h =
      let k = ticks in
      let b = suc-mul j (total ds) in
      let z : suc j * total ds - 1 ≡ j * total ds + (total ds - 1) = omega arith in
      ap (shown loops num den ds) z ∙ last_of j (inr (omega arith))

  ends : Ended loops num den ds
  ends =
      record {
        from = λ n h k.
            let e = ended-from loops ds n h k in
            (shown-is n ∙ last-stays loops ds n e, ended_is n ∙ e);
        not-before = λ n h. ended_is n ∙ not-before loops ds n h;
        never = λ n z. ended_is n ∙ ap (λ (l : ℕ). ended_at l ds n) z ∙ never-ended ds n;
        stays = λ h. stays loops refl h;
      }

  span-is : (n : ℕ) → ended loops num den ds n ≡ false → shown loops num den ds n ≡ frame_in ds (n % total ds)
  span-is n e = shown-is n ∙ while-playing loops ds n (sym (ended_is n) ∙ e)

  left : (n : ℕ) → n % total ds < total ds
  left n = mod-lt n ticks

  there : (n : ℕ) (b : Bool) → ended loops num den ds n ≡ b → shown loops num den ds n < length ds
  there n true e = let s = p.some in let f = shown-is n ∙ last-stays loops ds n (sym (ended_is n) ∙ e) in omega arith
  there n false e = let f = span-is n e in let r = in-range ds (n % total ds) (left n) in omega arith

  spans : Spans loops num den ds
  spans =
      record {
        holds = λ n e. rw (span-is n e) (span-starts ds (n % total ds), span-ends ds (n % total ds) (left n));
        only = λ n k e h. sym (span-is n e ∙ span-only ds k (n % total ds) h.0 h.1);
        there = λ n. there n (ended loops num den ds n) refl;
      }

  next : (j t : ℕ) → Played loops j → suc t < total ds → (n : ℕ) → n ≡ j * total ds + t
      → (shown loops num den ds (suc n) ≡ shown loops num den ds n) ⊎ (shown loops num den ds (suc n) ≡ suc (shown loops num den ds n))
  next j t q h n e =
      let a : shown loops num den ds n ≡ frame_in ds t = ap (shown loops num den ds) e ∙ in-round j t q (omega arith) in
      let z : suc n ≡ j * total ds + suc t = omega arith in
      let b : shown loops num den ds (suc n) ≡ frame_in ds (suc t) = ap (shown loops num den ds) z ∙ in-round j (suc t) q h in
      rw (a, b) (same-or-next (frame_in ds t) (frame_in ds (suc t)) (in_order ds t (suc t) (omega arith)) (one_by_one ds t positive))

  rounds : Rounds loops num den ds
  rounds =
      record {
        exactly = λ j q k.
            count_same (total ds) _ _ (λ t h. ap (λ (f : ℕ). eqb f k) (shown-is (j * total ds + t))) ∙ round-times loops ds j k q;
        later = λ n e. shown-is (n + total ds) ∙ round-later loops ds n (sym (ended_is (n + total ds)) ∙ e) ∙ sym (shown-is n);
        first = λ j q.
            let z : j * total ds ≡ j * total ds + 0 = omega arith in
            ap (shown loops num den ds) z ∙ in-round j 0 q ticks ∙ at_first ds positive;
        next = λ j t q h. next j t q h (j * total ds + t) refl;
        last = last_of;
      }

pub loops-hold : Loops
loops-hold = record { ends = ends; spans = spans; rounds = rounds }

-- ---- ticks

ticks-are : (ms num den : ℕ) → KnownPeriod num den → (ticks_answer ms num den).ticks ≡ ticks_of ms num den
unfolding ticks_answer
ticks-are ms num den k = rw (period-known num den k)

monotone : (a b num den : ℕ) → a ≤ b → (ticks_answer a num den).ticks ≤ (ticks_answer b num den).ticks
unfolding ticks_answer
monotone a b num den h = by (period_known num den)
  where
    by : (k : Bool) → (cond k (record { status = 0; ticks = ticks_of a num den }) refused_ticks).ticks
        ≤ (cond k (record { status = 0; ticks = ticks_of b num den }) refused_ticks).ticks
    by true = ticks-in-order a b num den h
    by false = omega arith

pub times : Times
times =
    record {
      whole = λ ms num den k.
          let w = ticks-whole ms num den k.numerator in
          let s = suc-mul (ticks_of ms num den) (1000 * num) in
          rw (ticks-are ms num den k) (w.0, omega arith);
      monotone = monotone;
    }

-- ---- sums and products

round-fits : (ds : List ℕ) (n : ℕ) → length ds ≤ n → ((k : ℕ) → get_or ds k 0 < 2 ^ 16) → total ds ≤ 65535 * n
unfolding total
round-fits [] n h k = omega arith
round-fits (d ∷ ds) zero h k = omega arith
round-fits (d ∷ ds) (suc n) h k = let r = round-fits ds n (omega arith) (λ i. k (suc i)) in let f = k 0 in omega arith

pub fits : Fits
fits =
    record {
      round = λ ds h k. let r = round-fits ds 256 h k in omega arith;
      end = λ loops ds h k. let f = end_fits loops (total ds) (omega arith) (omega arith) in omega arith;
      time = λ ms den h k. let f = time-fits ms den (omega arith) (omega arith) in omega arith;
    }
