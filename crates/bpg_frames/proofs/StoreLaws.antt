-- The second pass: what holds at the start of each unit, and a turn.
use mathlib.Core.Path.{◌≡◌, refl, sym, ap, ◌∙◌}
use mathlib.Core.Bool.{Bool, true, false}
use mathlib.Core.List.{List, ◌∷◌, ◌++◌}
use Prim.Native.Nat.{ℕ, ◌+◌, ◌-◌, ◌≤◌, ◌<◌}
use native.Mathlib.Numerals.{add-one}
use native.Mathlib.Omega.{arith}
use lib.ListN.{length, take, drop, get_or, set, length-take, length-drop, length-append, length-set, take-append-drop}
use lib.Seq.{length-take-le, take_all, take-append_seam, take-suc-set, drop-set-lt, drop-drop, get_or-take}
use Rattle.std.proofs.Common.{Option, None, Result, Ok, Err}
use Rattle.std.specs.Result.{IsOk}
use Rattle.std.specs.Int.{from_bool}
use Rattle.bpg_refusal.specs.declared.Reason.{Reason}
use Rattle.bpg_codec.specs.Select.{select}
use Rattle.bpg_codec.specs.Outcome.{ok}
use Rattle.bpg_codec.proofs.Lists.{either_way}
use Rattle.bpg_codec.proofs.Outcome.{ok-injective, error-not-ok}
use Rattle.bpg_codec.proofs.Select.{select-true, select-false}
use Rattle.bpg_nal_units.specs.declared.cut.Cut.{Cut}
use Rattle.bpg_nal_units.specs.declared.nal_header.NalHeader.{NalHeader}
use Rattle.bpg_nal_units.specs.Headers.{header_of}
use Rattle.bpg_nal_units.specs.Units.{Nal, units, bytes_at, cut_at}
use Rattle.bpg_nal_units.proofs.Cases.{by-test, by_equal}
use Rattle.bpg_nal_units.proofs.UnitLaws.{unit_at}
use Rattle.bpg_refusal.specs.Outcomes.{outcome_at_zero}
use Rattle.bpg_frame_units.specs.declared.kind.Verdict.{Verdict}
use Rattle.bpg_frame_units.specs.declared.wait.Waiting.{Waiting}
use Rattle.bpg_frame_units.specs.Units.{Said, is_slice, starts_frame, kind_says}
use Rattle.bpg_frame_units.specs.Frames.{judged, lasting, frames_from}
use Rattle.bpg_frame_units.specs.Answers.{Headed, verdict, verdict_of, waits, wait_by, frames_at}
use Rattle.bpg_frames.specs.Surveys.{durations_at, Storable}
use Rattle.bpg_frame_units.proofs.UnitLaws.{unit-passed, judged-passed}
use Rattle.bpg_frame_units.proofs.SaidLaws.{said-starts, said-long}
use Rattle.bpg_frames.proofs.Growth.{grows}
use Rattle.bpg_frame_units.proofs.FrameLaws.{timed_by, timed-length, frames-end, frames-open, frames-judged, frames-on}
use Rattle.bpg_frame_units.proofs.FrameLaws.{turn_end, turn-part, turn-room, turn-first, all-last, all_more}

-- ---- where a unit ends does not matter for whether a frame starts

module _ (l : List ℕ) (k : ℕ) (u : List ℕ) (e : take k l ≡ u) (two : 2 ≤ length u) where
  abbrev slice_here : List ℕ → Bool
  slice_here m = is_slice (header_of (get_or m 0 0) (get_or m 1 0))

  at : (i : ℕ) → i < length u → get_or u i 0 ≡ get_or l i 0
  at i h = ap (λ (m : List ℕ). get_or m i 0) (sym e) ∙ get_or-take k l i 0 (omega (arith, ap length e, length-take k l))

  header_is : slice_here u ≡ slice_here l
  header_is = rw (at 0 (omega arith), at 1 (omega arith))

  starts-part : (slice_here u ≡ true → 3 ≤ length u) → starts_frame u ≡ starts_frame l
  starts-part long =
      by-test (slice_here u)
      (λ s. rw (header_is, at 2 (omega (arith, long s))))
      (λ s. rw (s, sym header_is ∙ s))

one-more : (b : Bool) (n : ℕ) → select b (n + 1) n ≡ n + from_bool b
unfolding select
one-more true n = refl
one-more false n = omega arith

-- an answer that is well
own-ok : {A : Type 0} (r : Result A Reason) (x : A) → outcome_at_zero r ≡ ok x → IsOk r
own-ok (Ok y) x e = refl
own-ok (Err s) x e = absurd (error-not-ok e)

-- ---- what holds at the start of each unit

pub record Storing (f : List ℕ) (p : ℕ) (alpha : Bool) (list₀ list : List ℕ) (start found : ℕ) (w : Option Waiting) : Type 0 where
  pub inside : start ≤ length f
  pub size : length list ≡ length list₀
  pub few : found ≤ length list
  pub same : frames_at f p alpha ≡ frames_from alpha (units start (drop start f)) (waits w) (take found list)
  pub after : drop found list ≡ drop found list₀

pub storing : (f : List ℕ) (p : ℕ) (alpha : Bool) (list : List ℕ) → p ≤ length f → Storing f p alpha list list p 0 None
storing f p alpha list h = record { inside = h; size = refl; few = omega arith; same = refl; after = refl }

-- ---- a turn

module _ {f : List ℕ} {p : ℕ} {alpha : Bool} {count : ℕ} {list₀ list : List ℕ} {start found : ℕ} {w : Option Waiting}
    (s : Storing f p alpha list₀ list start found w) (g : Storable f p alpha count list₀) where
  abbrev all : List ℕ
  all = durations_at f p alpha

  abbrev unit : List ℕ
  unit = bytes_at f start

  abbrev head : NalHeader
  head = header_of (get_or unit 0 0) (get_or unit 1 0)

  first : (us : List Nal) × (units start (drop start f) ≡ unit_at f start ∷ us)
  first = turn-first f start s.inside (cut_at f start) refl

  well : frames_from alpha (unit_at f start ∷ first.0) (waits w) (take found list) ≡ ok all
  well = ap (λ (us : List Nal). frames_from alpha us (waits w) (take found list)) (sym first.1) ∙ sym s.same ∙ g.all

  -- the unit was judged
  judged-here : (x : Said) × (judged alpha (waits w).duration unit ≡ ok x)
  judged-here = frames-judged alpha (waits w) (take found list) (unit_at f start) first.0 all well

  abbrev said : Said
  said = judged-here.0

  abbrev v : Verdict
  v = verdict said

  passed_here : (2 ≤ length unit) × (get_or unit 1 0 ≡ 0 → ⊥) × (kind_says alpha unit head ≡ ok said)
  passed_here = unit-passed alpha unit said (judged-passed alpha (waits w).duration unit said judged-here.1)

  on-judged : ok v ≡ verdict_of (judged alpha (waits w).duration unit)
  on-judged = ap verdict_of (sym judged-here.1)

  -- the durations with that of this unit, and what comes after them
  abbrev stored : List ℕ
  stored = timed_by (waits w) v (take found list)

  goes_on : frames_from alpha first.0 (waits (wait_by w v start)) stored ≡ ok all
  goes_on = sym (frames-on alpha w (take found list) (unit_at f start) first.0 v on-judged) ∙ well

  rest_of : (new : List ℕ) × (all ≡ stored ++ new)
  rest_of = let o = grows first.0 alpha (waits (wait_by w v start)) stored all goes_on in (o.0, o.1)

  module _ (cut : Cut) (e : cut ≡ cut_at f start) where
    pub store-span : (start ≤ cut.end.0) × (cut.end.0 ≤ length f) × (start ≤ cut.code.0)
    store-span = turn_end f start s.inside cut e

    abbrev part : List ℕ
    part = take (cut.end.0 - start) (drop start f)

    part-is : part ≡ unit
    part-is = turn-part f start s.inside cut e

    pub store-header : Headed part
    store-header = rw part-is (record { long = passed_here.0; temporal = passed_here.1 })

  module _ (b : Bool) (j : b ≡ starts_frame (take (length f - start) (drop start f))) where
    starts_is : b ≡ v.starts
    starts_is =
        j ∙ ap starts_frame (take_all (length f - start) (drop start f) (rw length-drop (omega arith)))
        ∙ sym (starts-part (drop start f) ((cut_at f start).end.0 - start) unit (part-is (cut_at f start) refl) passed_here.0
        (said-long alpha unit head said passed_here.2))
        ∙ sym (said-starts alpha unit head said passed_here.2)

    timed-count : length stored ≡ select b (found + 1) found
    timed-count = timed-length (waits w) v (take found list) found _ (length-take-le found list s.few) (ap (λ (t : Bool). select t (found + 1) found) starts_is ∙ one-more v.starts found)

    most : select b (found + 1) found ≤ count
    most =
        let r = rest_of in
        let l = ap length r.1 ∙ length-append stored r.0 in
        omega (arith, l, timed-count, g.counted)

    pub store-room : b ≡ true → found < length list
    store-room t = omega (arith, most, select-true (found + 1) found t, g.room, s.size)

    module _ (n : ℕ) (a : n ≡ select b (found + 1) found) (list' : List ℕ) (d : list' ≡ select b (set list found (lasting (waits w).duration)) list) where
      front : take n list' ≡ stored
      front =
          by-test b
          (λ t.
          rw (a, d, ← starts_is, select-true _ _ t, select-true _ _ t, select-true _ _ t, add-one)
          (take-suc-set list found (lasting (waits w).duration) (store-room t)))
          (λ t. rw (a, d, ← starts_is, select-false _ _ t, select-false _ _ t, select-false _ _ t))

      pub size-kept : length list' ≡ length list₀
      size-kept = by-test b (λ t. rw (d, select-true _ _ t, length-set) s.size) (λ t. rw (d, select-false _ _ t) s.size)

      fits : n ≤ length list'
      fits = omega (arith, a, most, g.room, size-kept)

      rest-kept : drop n list' ≡ drop n list₀
      rest-kept =
          by-test b
          (λ t.
          rw (a, d, select-true _ _ t, select-true _ _ t)
          (drop-set-lt (found + 1) list found (lasting (waits w).duration) (omega arith) ∙ sym (drop-drop 1 found list) ∙ ap (drop 1) s.after
          ∙ drop-drop 1 found list₀))
          (λ t. rw (a, d, select-false _ _ t, select-false _ _ t) s.after)

      -- all are stored: nothing comes after
      pub store-done : count ≤ n → list' ≡ all ++ drop (length all) list₀
      store-done h =
          let r = rest_of in
          let size : length all ≡ n = omega (arith, a, most, g.counted) in
          let same : length stored ≡ n = timed-count ∙ sym a in
          let done : take n list' ≡ all =
          front ∙ sym (take-append_seam stored r.0) ∙ ap (λ (m : ℕ). take m (stored ++ r.0)) same ∙ ap (take n) (sym r.1)
          ∙ take_all n all (omega arith)
          in
          rw (size, ← rest-kept, ← done) (sym (take-append-drop n list'))

      module _ (m : n < count) (cut : Cut) (e : cut ≡ cut_at f start) where
        -- a last unit would end the durations
        pub store_code : cut.code.0 < length f
        store_code =
            either_way (length f) cut.code.0
            (λ k.
            let o = sym (all-last f start s.inside cut e alpha w (take found list) (frames_at f p alpha) s.same v on-judged k) ∙ g.all in
            by_equal (waits (wait_by w v start)).duration 0
            (λ h.
            let q = ap length (ok-injective (sym (frames-end alpha (waits (wait_by w v start)) stored h) ∙ o)) in
            absurd (omega (arith, q, timed-count, a, g.counted)))
            (λ h. absurd (error-not-ok (sym (frames-open alpha (waits (wait_by w v start)) stored h) ∙ o))))
            (λ k. k)

        -- the unit is well
        abbrev Said_by : Result Verdict Reason → Type 0
        Said_by r = let u = part cut e in outcome_at_zero r ≡ verdict_of (kind_says alpha u (header_of (get_or u 0 0) (get_or u 1 0)))

        said-by : (r : Result Verdict Reason) → Said_by r → outcome_at_zero r ≡ ok v
        said-by r k = rw (part-is cut e) at k ∙ ap verdict_of passed_here.2

        pub store-well : (r : Result Verdict Reason) → Said_by r → IsOk r
        store-well r k = own-ok r v (said-by r k)

        pub store-more : (r : Result Verdict Reason) → Said_by r → (y : Verdict) → r ≡ Ok y → (next : Option Waiting) → next ≡ wait_by w y start
            → Storing f p alpha list₀ list' (cut.code.0 + 3) n next
        store-more r k y q next t =
            let y-is : y ≡ v = ok-injective (rw q at (said-by r k)) in
            record {
              inside = turn-room f start s.inside cut e store_code;
              size = size-kept;
              few = fits;
              same =
                  all_more f start s.inside cut e alpha w (take found list) (frames_at f p alpha) s.same v on-judged store_code
                  ∙ rw (t, y-is, front);
              after = rest-kept;
            }
