-- Where units are refused.
use mathlib.Core.Path.{◌≡◌, refl, sym, ap, ◌∙◌}
use mathlib.Core.Bool.{Bool}
use mathlib.Core.List.{List, [], ◌∷◌, ◌++◌}
use mathlib.Core.Logic.{◌⊎◌, inl, inr, ⊎_elim, ◌≢◌}
use Prim.Native.Nat.{ℕ, suc}
use native.Mathlib.Omega.{arith}
use Rattle.bpg_codec.specs.Outcome.{Outcome, ok, error}
use Rattle.bpg_codec.proofs.Outcome.{error-not-ok}
use Rattle.bpg_nal_units.specs.Units.{Nal}
use Rattle.bpg_nal_units.proofs.Cases.{by-test, by_equal}
use Rattle.bpg_frame_units.specs.declared.wait.Waiting.{Waiting}
use Rattle.bpg_frame_units.specs.Units.{Said}
use Rattle.bpg_frame_units.specs.Frames.{judged, nothing, set_by, lasting, frames_from}
use Rattle.bpg_frames.specs.Requirements.{Passes, FirstRefused}
use Rattle.bpg_frame_units.proofs.Refusals.{unit-refuses}
use Rattle.bpg_frame_units.proofs.UnitLaws.{judged-passed, judged-error}
use Rattle.bpg_frame_units.proofs.FrameLaws.{frames-end, frames-open, frames-stop, frames-starts, frames-goes}

error-status : {A : Type 0} {s t p q : ℕ} → ◌≡◌ {A = Outcome A} (error s p) (error t q) → s ≡ t
error-status e = cc

error-offset : {A : Type 0} {s t p q : ℕ} → ◌≡◌ {A = Outcome A} (error s p) (error t q) → p ≡ q
error-offset e = cc

module _ (alpha : Bool) where
  -- at a unit that is left, or, with 24, at the one that set the duration that waits
  abbrev pub AtRefused : List Nal → Waiting → (s p : ℕ) → Type 0
  AtRefused us w s p = FirstRefused alpha us s p ⊎ ((w.duration ≢ 0) × (p ≡ w.unit.0) × (s ≡ 24))

  unit-later : (u : Nal) (us : List Nal) (s p : ℕ) → Passes alpha u → FirstRefused alpha us s p → FirstRefused alpha (u ∷ us) s p
  unit-later u us s p h a =
      record { i = suc a.i; unit = omega (arith, a.unit); at = a.at; before = (h, a.before); own = a.own; passes = a.passes }

  -- the unit itself
  unit-here : (u : Nal) (us : List Nal) (w s p q : ℕ) → p ≡ u.start → judged alpha w u.bytes ≡ error s q → FirstRefused alpha (u ∷ us) s p
  unit-here u us w s p q e j =
      record {
        i = 0;
        unit = omega arith;
        at = e;
        before = tt;
        own = λ h. ⊎_elim (λ a. (q, a)) (λ a. absurd (omega (arith, a.0))) (judged-error alpha w u.bytes s q j);
        passes = λ h.
            ⊎_elim (λ a. absurd (omega (arith, h, (unit-refuses alpha u.bytes s q a).1))) (λ a. a.1) (judged-error alpha w u.bytes s q j);
      }

  set_at : (us : List Nal) (u : Nal) (w : Waiting) (ds : List ℕ) (s p : ℕ) → Passes alpha u → (set_by w u.start ds).duration ≢ 0
      → p ≡ (set_by w u.start ds).unit.0 → s ≡ 24 → AtRefused (u ∷ us) w s p
  set_at us u w [] s p h n e k = inr (n, e, k)
  set_at us u w (d ∷ ds) s p h n e k =
      inl (
      record {
        i = 0;
        unit = omega arith;
        at = e ∙ unit-at ds (record { duration = d; unit = record { 0 = u.start } }) refl;
        before = tt;
        own = λ l. absurd (omega (arith, k));
        passes = λ _. h;
      }
      )
    where
      unit-at : (l : List ℕ) (v : Waiting) → v.unit.0 ≡ u.start → (set_by v u.start l).unit.0 ≡ u.start
      unit-at [] v g = g
      unit-at (c ∷ l) v g = unit-at l (record { duration = c; unit = record { 0 = u.start } }) refl

  pub refused-at : (us : List Nal) (w : Waiting) (ds : List ℕ) (s p : ℕ) → frames_from alpha us w ds ≡ error s p → AtRefused us w s p
  refused-at [] w ds s p e =
      by_equal w.duration 0
      (λ z. absurd (error-not-ok (sym e ∙ frames-end alpha w ds z)))
      (λ z. let f = sym e ∙ frames-open alpha w ds z in inr (z, error-offset f, error-status f))
  refused-at (u ∷ us) w ds s p e =
      by (judged alpha w.duration u.bytes) refl (refused-at us nothing (ds ++ (lasting w.duration ∷ [])) s p)
      (λ l. refused-at us (set_by w u.start l) ds s p)
    where
      by : (o : Outcome Said) → judged alpha w.duration u.bytes ≡ o
          → (frames_from alpha us nothing (ds ++ (lasting w.duration ∷ [])) ≡ error s p → AtRefused us nothing s p)
          → ((l : List ℕ) → frames_from alpha us (set_by w u.start l) ds ≡ error s p → AtRefused us (set_by w u.start l) s p)
          → AtRefused (u ∷ us) w s p
      by (error t q) j taken set =
          let f = sym e ∙ frames-stop alpha w ds u us t q j in
          inl (unit-here u us w.duration s p q (error-offset f) (j ∙ ap (λ (n : ℕ). error n q) (sym (error-status f))))
      by (ok x) j taken set =
          let h : Passes alpha u = (x, judged-passed alpha w.duration u.bytes x j) in
          by-test x.starts
          (λ b. ⊎_elim (λ a. inl (unit-later u us s p h a)) (λ a. absurd (a.0 refl)) (taken (sym (frames-starts alpha w ds u us x j b) ∙ e)))
          (λ b.
          ⊎_elim (λ a. inl (unit-later u us s p h a)) (λ a. set_at us u w x.durations s p h a.0 a.1 a.2)
          (set x.durations (sym (frames-goes alpha w ds u us x j b) ∙ e)))
