-- The durations grow, frame by frame: how many come after some, and what holds of each.
use mathlib.Core.Path.{◌≡◌, refl, sym, ap, ◌∙◌, subst}
use mathlib.Core.Bool.{Bool}
use mathlib.Core.List.{List, [], ◌∷◌, ◌++◌, append_assoc, append-nil}
use Prim.Native.Nat.{ℕ, suc}
use lib.ListN.{length}
use Rattle.bpg_codec.specs.Outcome.{ok}
use Rattle.bpg_codec.specs.Lawful.{All}
use Rattle.bpg_codec.proofs.Outcome.{ok-injective, error-not-ok}
use Rattle.bpg_codec.proofs.Select.{select-true, select-false}
use Rattle.bpg_nal_units.specs.Units.{Nal}
use Rattle.bpg_nal_units.proofs.Cases.{by-test, by_equal}
use Rattle.bpg_frame_units.specs.declared.wait.Waiting.{Waiting}
use Rattle.bpg_frame_units.specs.Units.{Said, kind_says}
use Rattle.bpg_frame_units.specs.Frames.{nothing, set_by, lasting, frames_from}
use Rattle.bpg_frames.specs.Requirements.{header_in, frame_starts}
use Rattle.bpg_frame_units.proofs.SaidLaws.{said-starts}
use Rattle.bpg_frame_units.proofs.UnitLaws.{unit-passed, judged-passed}
use Rattle.bpg_frame_units.proofs.FrameLaws.{frames-end, frames-open, frames-judged, frames-starts, frames-goes}

-- the durations after ds: as many as frame starts, and with what holds of 1 and of each duration that is set
module _ (alpha : Bool) (P : ℕ → Type 0) (one : P 1) where
  -- of the durations that a unit sets
  abbrev pub Sets : Nal → Type 0
  Sets u = (x : Said) → kind_says alpha u.bytes (header_in u) ≡ ok x → All (λ d. P (lasting d)) x.durations

  pub record Grown (us : List Nal) (ds all : List ℕ) : Type 0 where
    pub new : List ℕ
    pub is : all ≡ ds ++ new
    pub count : length new ≡ frame_starts us
    pub each : All P new

  waits-on : (w : Waiting) (p : ℕ) (ds : List ℕ) → P (lasting w.duration) → All (λ d. P (lasting d)) ds → P (lasting (set_by w p ds).duration)
  waits-on w p [] h k = h
  waits-on w p (d ∷ ds) h k = waits-on (record { duration = d; unit = record { 0 = p } }) p ds k.0 k.1

  pub nothing-lasts : P (lasting nothing.duration)
  nothing-lasts = subst P (sym (select-true _ _ refl)) one

  pub grown : (us : List Nal) (w : Waiting) (ds all : List ℕ) → All Sets us → P (lasting w.duration) → frames_from alpha us w ds ≡ ok all → Grown us ds all
  unfolding frame_starts
  grown [] w ds all s h e =
      by_equal w.duration 0
      (λ z. record { new = []; is = sym (ok-injective (sym (frames-end alpha w ds z) ∙ e)) ∙ sym (append-nil ds); count = refl; each = tt })
      (λ z. absurd (error-not-ok (sym (frames-open alpha w ds z) ∙ e)))
  grown (u ∷ us) w ds all s h e =
      let found = frames-judged alpha w ds u us all e in
      let x = found.0 in
      let j = found.1 in
      let k = (unit-passed alpha u.bytes x (judged-passed alpha w.duration u.bytes x j)).2 in
      let starts = said-starts alpha u.bytes (header_in u) x k in
      by-test x.starts
      (λ b.
      let g = grown us nothing (ds ++ (lasting w.duration ∷ [])) all s.1 nothing-lasts (sym (frames-starts alpha w ds u us x j b) ∙ e) in
      record {
        new = lasting w.duration ∷ g.new;
        is = g.is ∙ append_assoc ds (lasting w.duration ∷ []) g.new;
        count = ap suc g.count ∙ sym (select-true _ _ (sym starts ∙ b));
        each = (h, g.each);
      })
      (λ b.
      let g = grown us (set_by w u.start x.durations) ds all s.1 (waits-on w u.start x.durations h (s.0 x k)) (sym (frames-goes alpha w ds u us x j b) ∙ e) in
      record { new = g.new; is = g.is; count = g.count ∙ sym (select-false _ _ (sym starts ∙ b)); each = g.each })

-- ---- whatever is set

abbrev Any : ℕ → Type 0
Any d = Unit {0}

any-sets : (alpha : Bool) (us : List Nal) → All (Sets alpha Any tt) us
any-sets alpha [] = tt
any-sets alpha (u ∷ us) = ((λ x e. any x.durations), any-sets alpha us)
  where
    any : (l : List ℕ) → All Any l
    any [] = tt
    any (d ∷ l) = (tt, any l)

pub grows : (us : List Nal) (alpha : Bool) (w : Waiting) (ds all : List ℕ) → frames_from alpha us w ds ≡ ok all
    → (new : List ℕ) × (all ≡ ds ++ new) × (length new ≡ frame_starts us)
grows us alpha w ds all e = let g = grown alpha Any tt us w ds all (any-sets alpha us) tt e in (g.new, g.is, g.count)
