-- Units are refused with 22, 23 and 24 alone.
use mathlib.Core.Path.{refl}
use mathlib.Core.Bool.{Bool, not}
use mathlib.Core.List.{List, [], ◌∷◌}
use Prim.Native.Nat.{ℕ, ◌≤◌}
use native.Mathlib.Omega.{arith}
use lib.Dec.{eqb, leb}
use lib.ListN.{length, drop, get_or}
use Rattle.bpg_codec.specs.Outcome.{Outcome, ok, error}
use Rattle.bpg_codec.proofs.Refusals.{Refuses, refuses-ok, refuses-error, refuses-bind, refuses-guard, refuses-select}
use Rattle.bpg_nal_units.specs.declared.nal_header.NalHeader.{NalHeader}
use Rattle.bpg_nal_units.specs.Headers.{header_of}
use Rattle.bpg_nal_units.specs.Units.{Nal}
use Rattle.bpg_nal_emulation.specs.Emulation.{unescape, keeps_rules}
use Rattle.bpg_sei.specs.Messages.{durations_in}
use Rattle.bpg_sei.proofs.Refusals.{durations-refuse}
use Rattle.bpg_frame_units.specs.declared.wait.Waiting.{Waiting}
use Rattle.bpg_frame_units.specs.Units.{is_slice, is_prefix_sei, allowed_unit, slice_says, sei_says, other_says, kind_says, unit_says}
use Rattle.bpg_frame_units.specs.Frames.{settles, judged, refused_at, wait_after, timed, frames_from}

-- a unit by itself
abbrev pub OwnStatus : ℕ → ℕ → Type 0
OwnStatus s o = (22 ≤ s) × (s ≤ 23)

abbrev P : ℕ → ℕ → Type 0
P = OwnStatus

slice-refuses : (u : List ℕ) → Refuses P (slice_says u)
unfolding slice_says
slice-refuses u = refuses-guard P (leb 3 (length u)) 22 0 _ (omega arith, omega arith) (refuses-ok P _)

sei-refuses : (u : List ℕ) → Refuses P (sei_says u)
unfolding sei_says
sei-refuses u =
    let l = drop 2 (unescape u) in
    refuses-bind P (durations_in l) _ (λ s o e. let k = durations-refuse l s o e in (omega arith, omega arith)) λ ds. refuses-ok P _

other-refuses : (alpha : Bool) (h : NalHeader) → Refuses P (other_says alpha h)
unfolding other_says
other-refuses alpha h = refuses-guard P (allowed_unit alpha h) 23 0 _ (omega arith, omega arith) (refuses-ok P _)

kind-refuses : (alpha : Bool) (u : List ℕ) (h : NalHeader) → Refuses P (kind_says alpha u h)
unfolding kind_says
kind-refuses alpha u h =
    refuses-select P (is_slice h) _ _ (slice-refuses u) (refuses-select P (is_prefix_sei h) _ _ (sei-refuses u) (other-refuses alpha h))

pub unit-refuses : (alpha : Bool) (u : List ℕ) → Refuses OwnStatus (unit_says alpha u)
unfolding unit_says
unit-refuses alpha u =
    let h = header_of (get_or u 0 0) (get_or u 1 0) in
    refuses-guard P (leb 2 (length u)) 22 0 _ (omega arith, omega arith)
    (refuses-guard P (not h.forbidden_zero_bit) 22 0 _ (omega arith, omega arith)
    (refuses-guard P (not (eqb h.nuh_temporal_id_plus1 0)) 22 0 _ (omega arith, omega arith)
    (refuses-guard P (keeps_rules u) 22 0 _ (omega arith, omega arith) (kind-refuses alpha u h))))

-- with the durations that wait
abbrev pub UnitStatus : ℕ → ℕ → Type 0
UnitStatus s o = (22 ≤ s) × (s ≤ 24)

pub judged-refuses : (alpha : Bool) (w : ℕ) (u : List ℕ) → Refuses UnitStatus (judged alpha w u)
unfolding judged
judged-refuses alpha w u =
    refuses-bind UnitStatus (unit_says alpha u) _ (λ s o e. let k = unit-refuses alpha u s o e in (k.0, omega (arith, k.1))) λ x.
    refuses-guard UnitStatus (settles w x.durations) 24 0 _ (omega arith, omega arith) (refuses-ok UnitStatus x)

at-refuses : {A : Type 0} (p : ℕ) (m : Outcome A) → Refuses UnitStatus m → Refuses UnitStatus (refused_at p m)
at-refuses p (ok a) h = refuses-ok UnitStatus a
at-refuses p (error s o) h = refuses-error UnitStatus s p (h s o refl)

pub frames-refuse : (us : List Nal) (alpha : Bool) (w : Waiting) (ds : List ℕ) → Refuses UnitStatus (frames_from alpha us w ds)
unfolding frames_from
frames-refuse [] alpha w ds = refuses-guard UnitStatus (eqb w.duration 0) 24 w.unit.0 _ (omega arith, omega arith) (refuses-ok UnitStatus ds)
frames-refuse (u ∷ us) alpha w ds =
    refuses-bind UnitStatus (refused_at u.start (judged alpha w.duration u.bytes)) _
    (at-refuses u.start (judged alpha w.duration u.bytes) (judged-refuses alpha w.duration u.bytes)) λ x.
    frames-refuse us alpha (wait_after w u.start x) (timed w x ds)
