-- The frames, unit by unit: one equation for each case, and a turn of either pass.
use mathlib.Core.Path.{◌≡◌, refl, sym, ap, ◌∙◌}
use mathlib.Core.Bool.{Bool, true, false, not, ◌&&◌, ◌||◌, false≢true}
use Rattle.std.proofs.Common.{Option, Some, None}
use Rattle.std.specs.Option.{is_some}
use Rattle.std.specs.Int.{from_bool}
use mathlib.Core.List.{List, [], ◌∷◌, ◌++◌}
use Prim.Native.Nat.{ℕ, ◌+◌, ◌-◌, ◌≤◌, ◌<◌}
use native.Mathlib.Omega.{arith}
use lib.Dec.{eqb}
use lib.ListN.{length, take, drop, length-append}
use borrow.Author.Tests.{eq-eqb, ne_eqb}
use Rattle.bpg_codec.specs.Select.{select}
use Rattle.bpg_codec.specs.Outcome.{Outcome, ok, error, ◌>>=◌}
use Rattle.bpg_codec.proofs.Lists.{either_way}
use Rattle.bpg_codec.proofs.Outcome.{unbind, error-not-ok, ok-injective}
use Rattle.bpg_codec.proofs.Select.{select-true, select-false}
use Rattle.bpg_nal_units.specs.declared.cut.Cut.{Cut}
use Rattle.bpg_nal_units.specs.Units.{Nal, units, code_from, bytes_at, cut_at}
use Rattle.bpg_nal_units.proofs.Cases.{by-test, by_equal, and-false}
use Rattle.bpg_nal_units.proofs.UnitLaws.{unit_at, last-at, room_at, more-at, end-at, part_at}
use Rattle.bpg_sei.specs.Steps.{last_of}
use Rattle.bpg_frame_units.specs.declared.kind.Verdict.{Verdict}
use Rattle.bpg_frame_units.specs.declared.wait.Waiting.{Waiting}
use Rattle.bpg_frame_units.specs.Units.{Said}
use Rattle.bpg_frame_units.specs.Frames.{settles, judged, refused_at, nothing, set_by, wait_after, lasting, timed, frames_from}
use Rattle.bpg_frame_units.specs.Answers.{verdict, verdict_of, waits, wait_by}
use Rattle.bpg_frame_units.proofs.UnitLaws.{settles-by, judged-settles}

-- ---- what goes over from a unit to the next, as the code has it

set-some : (ds : List ℕ) (w : Waiting) (p d : ℕ) → set_by w p (d ∷ ds) ≡ record { duration = last_of (d ∷ ds); unit = record { 0 = p } }
unfolding last_of
set-some [] w p d = refl
set-some (e ∷ ds) w p d = set-some ds w p e

set_last : (w : Waiting) (p : ℕ) (ds : List ℕ) → set_by w p ds ≡ select (eqb (length ds) 0) w (record { duration = last_of ds; unit = record { 0 = p } })
set_last w p [] = sym (select-true _ _ refl)
set_last w p (d ∷ ds) = set-some ds w p d ∙ sym (select-false _ _ (ne_eqb (length (d ∷ ds)) 0 (λ z. omega arith)))

waits-select : (b : Bool) (v w : Option Waiting) → select b (waits v) (waits w) ≡ waits (select b v w)
waits-select b v w = by-test b (λ e. rw (select-true _ _ e, select-true _ _ e)) (λ e. rw (select-false _ _ e, select-false _ _ e))

wait_by-verdict : (w : Option Waiting) (p : ℕ) (x : Said) → wait_after (waits w) p x ≡ waits (wait_by w (verdict x) p)
unfolding wait_after
wait_by-verdict w p x =
    ap (λ (y : Waiting). select x.starts nothing y)
    (set_last (waits w) p x.durations
    ∙ waits-select (eqb (length x.durations) 0) w (Some (record { duration = last_of x.durations; unit = record { 0 = p } })))
    ∙ waits-select x.starts None _

abbrev pub timed_by : Waiting → Verdict → List ℕ → List ℕ
timed_by w v ds = select v.starts (ds ++ (lasting w.duration ∷ [])) ds

timed-by : (w : Waiting) (x : Said) (ds : List ℕ) → timed w x ds ≡ timed_by w (verdict x) ds
unfolding timed
timed-by w x ds = refl

-- what waits is not 0
abbrev pub IsSet : Option Waiting → Type 0
IsSet None = Unit {0}
IsSet (Some w) = w.duration ≡ 0 → ⊥

pub set-waits : (w : Option Waiting) → IsSet w → is_some w ≡ not (eqb (waits w).duration 0)
set-waits None s = refl
set-waits (Some w) s = rw (ne_eqb w.duration 0 s)

last-set : (n l : ℕ) (b : Bool) → (eqb n 0 || (eqb n 1 && (not (eqb l 0) && not b))) ≡ true → (n ≡ 0 → ⊥) → l ≡ 0 → ⊥
last-set n l b e h g = false≢true (sym (and-false (eqb n 1) false refl) ∙ (rw (g, ne_eqb n 0 h) at e))

-- it stays so after a unit that was judged
pub set-after : (alpha : Bool) (w : Option Waiting) (u : List ℕ) (p : ℕ) (v : Verdict) → IsSet w
    → ok v ≡ verdict_of (judged alpha (waits w).duration u) → IsSet (wait_by w v p)
set-after alpha w u p v s e = by (judged alpha (waits w).duration u) refl e
  where
    waiting : (x : Said) → settles (waits w).duration x.durations ≡ true → IsSet (wait_by w (verdict x) p)
    waiting x t =
        by-test x.starts (λ b. rw (select-true _ _ b) tt) λ b.
        rw (select-false _ _ b)
        (by_equal (length x.durations) 0
        (λ z. rw (select-true _ _ (eq-eqb _ 0 z)) s)
        (λ n. rw (select-false _ _ (ne_eqb _ 0 n)) (last-set _ _ _ (settles-by (waits w).duration (is_some w) x.durations (set-waits w s) ∙ t) n)))

    by : (o : Outcome Said) → judged alpha (waits w).duration u ≡ o → ok v ≡ verdict_of o → IsSet (wait_by w v p)
    by (ok x) g f = rw (ok-injective f) (waiting x (judged-settles alpha (waits w).duration u x g))
    by (error t o) g f = absurd (error-not-ok (sym f))

pub timed-length : (w : Waiting) (v : Verdict) (ds : List ℕ) (n m : ℕ) → length ds ≡ n → m ≡ n + from_bool v.starts → length (timed_by w v ds) ≡ m
timed-length w v ds n m e f =
    by-test v.starts
    (λ b. ap length (select-true _ _ b) ∙ length-append ds (lasting w.duration ∷ []) ∙ rw (e, f, b))
    (λ b. ap length (select-false _ _ b) ∙ e ∙ rw (f, b) (omega arith))

pub one-most : (b : Bool) (n m : ℕ) → m ≡ n + from_bool b → m ≤ n + 1
one-most true n m e = omega arith
one-most false n m e = omega arith

-- ---- the end

module _ (alpha : Bool) (w : Waiting) (ds : List ℕ) where
  pub frames-end : w.duration ≡ 0 → frames_from alpha [] w ds ≡ ok ds
  unfolding frames_from
  frames-end h = rw (eq-eqb w.duration 0 h)

  pub frames-open : (w.duration ≡ 0 → ⊥) → frames_from alpha [] w ds ≡ error 24 w.unit.0
  unfolding frames_from
  frames-open h = rw (ne_eqb w.duration 0 h)

-- ---- a unit

module _ (alpha : Bool) (w : Waiting) (ds : List ℕ) (u : Nal) (us : List Nal) where
  abbrev says : Outcome Said
  says = judged alpha w.duration u.bytes

  abbrev rest : Outcome Said → Outcome (List ℕ)
  rest o = refused_at u.start o >>= λ x. frames_from alpha us (wait_after w u.start x) (timed w x ds)

  rest-is : frames_from alpha (u ∷ us) w ds ≡ rest says
  unfolding frames_from
  rest-is = refl

  pub frames-refused : (s : ℕ) → error s 0 ≡ verdict_of says → frames_from alpha (u ∷ us) w ds ≡ error s u.start
  frames-refused s e = rest-is ∙ by says e
    where
      by : (o : Outcome Said) → error s 0 ≡ verdict_of o → rest o ≡ error s u.start
      by (ok x) f = absurd (error-not-ok f)
      by (error t o) f = let k : t ≡ s = cc in rw k

  -- where all is well, the unit was judged
  pub frames-judged : (all : List ℕ) → frames_from alpha (u ∷ us) w ds ≡ ok all → (x : Said) × (says ≡ ok x)
  frames-judged all f = unbind (refused_at u.start says) _ (sym rest-is ∙ f) λ x g h. (x, at_ok says x g)
    where
      at_ok : (o : Outcome Said) (x : Said) → refused_at u.start o ≡ ok x → o ≡ ok x
      at_ok (ok y) x g = g
      at_ok (error s o) x g = absurd (let z : ◌≡◌ {A = ℕ} 0 1 = cc in omega arith)

pub frames-on : (alpha : Bool) (w : Option Waiting) (ds : List ℕ) (u : Nal) (us : List Nal) (v : Verdict)
    → ok v ≡ verdict_of (judged alpha (waits w).duration u.bytes)
    → frames_from alpha (u ∷ us) (waits w) ds ≡ frames_from alpha us (waits (wait_by w v u.start)) (timed_by (waits w) v ds)
frames-on alpha w ds u us v e = rest-is alpha (waits w) ds u us ∙ by (judged alpha (waits w).duration u.bytes) e
  where
    by : (o : Outcome Said) → ok v ≡ verdict_of o
        → rest alpha (waits w) ds u us o ≡ frames_from alpha us (waits (wait_by w v u.start)) (timed_by (waits w) v ds)
    by (ok x) f = rw (ok-injective f, wait_by-verdict w u.start x, timed-by (waits w) x ds)
    by (error s o) f = absurd (error-not-ok (sym f))

pub frames-stop : (alpha : Bool) (w : Waiting) (ds : List ℕ) (u : Nal) (us : List Nal) (s o : ℕ) → judged alpha w.duration u.bytes ≡ error s o
    → frames_from alpha (u ∷ us) w ds ≡ error s u.start
frames-stop alpha w ds u us s o j = rest-is alpha w ds u us ∙ rw j

-- ---- a turn of either pass: the unit at `start`, and the units after it

module _ (f : List ℕ) (start : ℕ) (h : start ≤ length f) (cut : Cut) (e : cut ≡ cut_at f start) where
  code_is : cut.code.0 ≡ code_from f start
  code_is = ap (λ (c : Cut). c.code.0) e

  end_is : cut.end.0 ≡ start + length (bytes_at f start)
  end_is = ap (λ (c : Cut). c.end.0) e

  pub turn_end : (start ≤ cut.end.0) × (cut.end.0 ≤ length f) × (start ≤ cut.code.0)
  turn_end = let a = end-at f start h in let b = end_is in let c = code_is in (omega arith, omega arith, omega arith)

  pub turn-part : take (cut.end.0 - start) (drop start f) ≡ bytes_at f start
  turn-part = rw end_is (part_at f start h)

  pub turn_last : length f ≤ cut.code.0 → units start (drop start f) ≡ unit_at f start ∷ []
  turn_last k = last-at f start h (rw code_is at k)

  pub turn_more : cut.code.0 < length f → units start (drop start f) ≡ unit_at f start ∷ units (cut.code.0 + 3) (drop (cut.code.0 + 3) f)
  turn_more k = rw code_is (more-at f start h (rw code_is at k))

  pub turn-room : cut.code.0 < length f → cut.code.0 + 3 ≤ length f
  turn-room k = rw code_is (room_at f start h (rw code_is at k))

  -- the units from here on are not none
  pub turn-first : (us : List Nal) × (units start (drop start f) ≡ unit_at f start ∷ us)
  turn-first = either_way (length f) cut.code.0 (λ k. ([], turn_last k)) (λ k. (units (cut.code.0 + 3) (drop (cut.code.0 + 3) f), turn_more k))

  module _ (alpha : Bool) (w : Option Waiting) (ds : List ℕ) (all : Outcome (List ℕ))
      (inv : all ≡ frames_from alpha (units start (drop start f)) (waits w) ds) where
    pub all-refused : (s : ℕ) → error s 0 ≡ verdict_of (judged alpha (waits w).duration (bytes_at f start)) → all ≡ error s start
    all-refused s j = let t = turn-first in inv ∙ rw t.1 (frames-refused alpha (waits w) ds (unit_at f start) t.0 s j)

    module _ (v : Verdict) (j : ok v ≡ verdict_of (judged alpha (waits w).duration (bytes_at f start))) where
      pub all-last : length f ≤ cut.code.0 → all ≡ frames_from alpha [] (waits (wait_by w v start)) (timed_by (waits w) v ds)
      all-last k = inv ∙ rw (turn_last k) (frames-on alpha w ds (unit_at f start) [] v j)

      pub all_more : cut.code.0 < length f
          → all ≡ frames_from alpha (units (cut.code.0 + 3) (drop (cut.code.0 + 3) f)) (waits (wait_by w v start)) (timed_by (waits w) v ds)
      all_more k = inv ∙ rw (turn_more k) (frames-on alpha w ds (unit_at f start) _ v j)

-- ---- a unit of frames that are all well

module _ (w : Waiting) (p : ℕ) (x : Said) (ds : List ℕ) where
  wait-taken : x.starts ≡ true → wait_after w p x ≡ nothing
  unfolding wait_after
  wait-taken b = select-true _ _ b

  wait-set : x.starts ≡ false → wait_after w p x ≡ set_by w p x.durations
  unfolding wait_after
  wait-set b = select-false _ _ b

  timed-one : x.starts ≡ true → timed w x ds ≡ ds ++ (lasting w.duration ∷ [])
  unfolding timed
  timed-one b = select-true _ _ b

  timed-none : x.starts ≡ false → timed w x ds ≡ ds
  unfolding timed
  timed-none b = select-false _ _ b

module _ (alpha : Bool) (w : Waiting) (ds : List ℕ) (u : Nal) (us : List Nal) (x : Said) (j : judged alpha w.duration u.bytes ≡ ok x) where
  goes_on : frames_from alpha (u ∷ us) w ds ≡ frames_from alpha us (wait_after w u.start x) (timed w x ds)
  goes_on = rest-is alpha w ds u us ∙ rw j

  pub frames-starts : x.starts ≡ true → frames_from alpha (u ∷ us) w ds ≡ frames_from alpha us nothing (ds ++ (lasting w.duration ∷ []))
  frames-starts b = goes_on ∙ rw (wait-taken w u.start x ds b, timed-one w u.start x ds b)

  pub frames-goes : x.starts ≡ false → frames_from alpha (u ∷ us) w ds ≡ frames_from alpha us (set_by w u.start x.durations) ds
  frames-goes b = goes_on ∙ rw (wait-set w u.start x ds b, timed-none w u.start x ds b)
