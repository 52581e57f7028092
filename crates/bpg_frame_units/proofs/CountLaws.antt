-- The first pass: what holds at the start of each unit, and a turn.
use mathlib.Core.Path.{◌≡◌, refl, sym, ap, ◌∙◌}
use mathlib.Core.Bool.{Bool, true, false, not}
use Rattle.std.proofs.Common.{Option, Some, None}
use Rattle.std.specs.Option.{is_some}
use Rattle.std.specs.Int.{from_bool}
use mathlib.Core.List.{List, []}
use Prim.Native.Nat.{ℕ, ◌+◌, ◌-◌, ◌*◌, ◌≤◌, ◌<◌}
use native.Mathlib.Omega.{arith}
use lib.ListN.{length, take, drop, drop_of_length-le}
use Rattle.bpg_codec.specs.Select.{select}
use Rattle.bpg_codec.specs.Outcome.{Outcome, ok, error}
use Rattle.bpg_nal_units.specs.declared.cut.Cut.{Cut}
use Rattle.bpg_nal_units.specs.Search.{offset_of}
use Rattle.bpg_nal_units.specs.Units.{trim_zeros, units_up_to, units, bytes_at, cut_at}
use lib.Dec.{eqb}
use Rattle.bpg_nal_emulation.specs.Emulation.{keeps_rules}
use Rattle.bpg_frame_units.specs.declared.kind.Verdict.{Verdict}
use Rattle.bpg_frame_units.specs.declared.wait.Waiting.{Waiting}
use Rattle.bpg_frame_units.specs.Units.{unit_says}
use Rattle.bpg_frame_units.specs.Frames.{judged, frames_from}
use Rattle.bpg_frame_units.specs.Answers.{verdict_of, waits, wait_by, counted, ended, frames_at}
use Rattle.bpg_frame_units.proofs.UnitLaws.{unit-broken, judged-refused}
use Rattle.bpg_frame_units.proofs.FrameLaws.{timed_by, timed-length, one-most, IsSet, set-waits, set-after, frames-end, frames-open}
use Rattle.bpg_frame_units.proofs.FrameLaws.{turn_end, turn-part, turn-room, all-refused, all-last, all_more}

pub record Counting (f : List ℕ) (p : ℕ) (alpha : Bool) (start found : ℕ) (w : Option Waiting) : Type 0 where
  pub inside : start ≤ length f
  -- each unit but the first stands behind a start code
  pub few : found * 3 ≤ start
  pub set : IsSet w
  pub ds : List ℕ
  pub found-is : length ds ≡ found
  pub same : frames_at f p alpha ≡ frames_from alpha (units start (drop start f)) (waits w) ds

-- data that would start past the end has one unit, which is empty
pub count_past : (f : List ℕ) (p : ℕ) (alpha : Bool) → length f < p → error 22 p ≡ counted (frames_at f p alpha)
unfolding select offset_of trim_zeros units_up_to unit_says judged frames_from
count_past f p alpha h = rw (drop_of_length-le f {i = p} (omega arith))

pub counting : (f : List ℕ) (p : ℕ) (alpha : Bool) → p ≤ length f → Counting f p alpha p 0 None
counting f p alpha h = record { inside = h; few = omega arith; set = tt; ds = []; found-is = refl; same = refl }

-- where the units end
end-is : (alpha : Bool) (w : Option Waiting) (ds : List ℕ) (n : ℕ) → IsSet w → length ds ≡ n
    → ended n w ≡ counted (frames_from alpha [] (waits w) ds)
end-is alpha None ds n s e = rw (frames-end alpha (waits None) ds refl, e)
end-is alpha (Some w) ds n s e = rw (frames-open alpha w ds s)

module _ {f : List ℕ} {p : ℕ} {alpha : Bool} {start found : ℕ} {w : Option Waiting} (c : Counting f p alpha start found w) where
  -- a unit that breaks an emulation rule
  pub count-broken : keeps_rules (bytes_at f start) ≡ false → error 22 start ≡ counted (frames_at f p alpha)
  count-broken k =
      let j = judged-refused alpha (waits w).duration (bytes_at f start) 22 (unit-broken alpha (bytes_at f start) k) in
      rw (all-refused f start c.inside (cut_at f start) refl alpha w c.ds (frames_at f p alpha) c.same 22 j)

  module _ (cut : Cut) (e : cut ≡ cut_at f start) where
    pub count-span : (start ≤ cut.end.0) × (cut.end.0 ≤ length f) × (start ≤ cut.code.0)
    count-span = turn_end f start c.inside cut e

    pub count_kept : keeps_rules (bytes_at f start) ≡ true → keeps_rules (take (cut.end.0 - start) (drop start f)) ≡ true
    count_kept k = ap keeps_rules (turn-part f start c.inside cut e) ∙ k

    pub count_room : cut.code.0 < length f → cut.code.0 + 3 ≤ length f
    count_room = turn-room f start c.inside cut e

    -- what is judged of the unit
    abbrev Judged : Outcome Verdict → Type 0
    Judged o = (k : ℕ) → is_some w ≡ not (eqb k 0) → o ≡ verdict_of (judged alpha k (take (cut.end.0 - start) (drop start f)))

    on-unit : (o : Outcome Verdict) → Judged o → o ≡ verdict_of (judged alpha (waits w).duration (bytes_at f start))
    on-unit o j = j (waits w).duration (set-waits w c.set) ∙ ap (λ (l : List ℕ). verdict_of (judged alpha (waits w).duration l)) (turn-part f start c.inside cut e)

    pub count-refused : (s : ℕ) → Judged (error s 0) → error s start ≡ counted (frames_at f p alpha)
    count-refused s j = rw (all-refused f start c.inside cut e alpha w c.ds (frames_at f p alpha) c.same s (on-unit (error s 0) j))

    module _ (v : Verdict) (j : Judged (ok v)) (n : ℕ) (t : n ≡ found + from_bool v.starts) (next : Option Waiting) (q : next ≡ wait_by w v start) where
      longer : length (timed_by (waits w) v c.ds) ≡ n
      longer = timed-length (waits w) v c.ds found n c.found-is t

      next-set : IsSet next
      next-set = rw q (set-after alpha w (bytes_at f start) start v c.set (on-unit (ok v) j))

      pub count-last : length f ≤ cut.code.0 → ended n next ≡ counted (frames_at f p alpha)
      count-last k =
          end-is alpha next (timed_by (waits w) v c.ds) n next-set longer
          ∙ rw (all-last f start c.inside cut e alpha w c.ds (frames_at f p alpha) c.same v (on-unit (ok v) j) k, sym q)

      pub count-more : cut.code.0 < length f → Counting f p alpha (cut.code.0 + 3) n next
      count-more k =
          let s = count-span in
          let m = one-most v.starts found n t in
          let g = c.few in
          record {
            inside = count_room k;
            few = omega arith;
            set = next-set;
            ds = timed_by (waits w) v c.ds;
            found-is = longer;
            same = all_more f start c.inside cut e alpha w c.ds (frames_at f p alpha) c.same v (on-unit (ok v) j) k ∙ rw q;
          }
