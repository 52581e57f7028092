-- The durations of a file whose frames are all well: how many there are, and what holds of each.
use mathlib.Core.Path.{◌≡◌, refl, sym, ap, ◌∙◌, subst}
use mathlib.Core.Bool.{true, false}
use mathlib.Core.List.{List, [], ◌∷◌, ◌++◌}
use mathlib.Core.Logic.{inl, inr}
use Prim.Native.Nat.{ℕ, ◌≤◌}
use native.Mathlib.Omega.{arith}
use lib.ListN.{length, drop, get_or}
use borrow.Author.Tests.{eq-eqb, ne_eqb}
use Rattle.bpg_codec.specs.Outcome.{ok}
use Rattle.bpg_codec.specs.Lawful.{All, Byte}
use Rattle.bpg_codec.proofs.Select.{select-true, select-false}
use Rattle.bpg_codec.proofs.Tokens.{all_take, all_drop}
use Rattle.bpg_format.specs.Parts.{record_in, data_of}
use Rattle.bpg_nal_units.specs.Units.{Nal}
use Rattle.bpg_nal_units.proofs.Cases.{by_equal}
use Rattle.bpg_nal_units.proofs.Whole.{units-bytes}
use Rattle.bpg_frame_units.specs.declared.wait.Waiting.{Waiting}
use Rattle.bpg_frame_units.specs.Units.{is_prefix_sei, starts_frame}
use Rattle.bpg_frame_units.specs.Frames.{nothing, lasting, frames_from, enough}
use Rattle.bpg_frames.specs.Calls.{data_at, alpha_in, units_in, frames_of, frame_count}
use Rattle.bpg_frames.specs.Requirements.{header_in, frame_starts, last_starts, SetsDuration, SetsNone}
use Rattle.bpg_frame_units.proofs.SaidLaws.{said-none, said-small}
use Rattle.bpg_frames.proofs.Growth.{Sets, nothing-lasts, grown, grows}
use Rattle.bpg_frames.proofs.NextFrame.{walk, keeps, sets, frame_at}
use Rattle.bpg_frames.proofs.CallLaws.{frames-parts}

module _ (f ds : List ℕ) (o : frames_of f ≡ ok ds) where
  pub count-is : (frame_count f).count ≡ length ds
  unfolding frame_count
  count-is = rw o

  well : frames_from (alpha_in f) (units_in f) nothing [] ≡ ok ds
  well = (frames-parts f ds o).1

  all_of : (P : ℕ → Type 0) (one : P 1) → All (Sets (alpha_in f) P one) (units_in f) → All P ds
  all_of P one s =
      let g = grown (alpha_in f) P one (units_in f) nothing [] ds s (nothing-lasts (alpha_in f) P one) well in
      subst (All P) (sym g.is) g.each

  pub starts_is : length ds ≡ frame_starts (units_in f)
  starts_is = let g = grows (units_in f) (alpha_in f) nothing [] ds well in ap length g.1 ∙ g.2

  range-sets : (us : List Nal) → All (λ (u : Nal). All Byte u.bytes) us → All (Sets (alpha_in f) (λ d. (1 ≤ d) × (d ≤ 65535)) (omega arith, omega arith)) us
  range-sets [] b = tt
  range-sets (u ∷ us) b = ((λ x e. ranges x.durations (said-small (alpha_in f) u.bytes (header_in u) x e b.0)), range-sets us b.1)
    where
      ranged : (d : ℕ) → d ≤ 65535 → (1 ≤ lasting d) × (lasting d ≤ 65535)
      ranged d h =
          by_equal d 0
          (λ z. let q = select-true 1 d (eq-eqb d 0 z) in (omega arith, omega arith))
          (λ z. let q = select-false 1 d (ne_eqb d 0 z) in (omega arith, omega arith))

      ranges : (l : List ℕ) → All (λ d. d ≤ 65535) l → All (λ d. (1 ≤ lasting d) × (lasting d ≤ 65535)) l
      ranges [] h = tt
      ranges (d ∷ l) h = (ranged d h.0, ranges l h.1)

  pub all-in-range : All Byte f → All (λ d. (1 ≤ d) × (d ≤ 65535)) ds
  unfolding data_of
  all-in-range b =
      all_of (λ d. (1 ≤ d) × (d ≤ 65535)) (omega arith, omega arith)
      (range-sets (units_in f) (units-bytes Byte (data_at f) (data_of f) (all_take Byte (record_in f).«data».length (drop (data_at f) f) (all_drop Byte (data_at f) f b))))

  ones-set : (us : List Nal) → All (λ (u : Nal). is_prefix_sei (header_in u) ≡ false) us → All (Sets (alpha_in f) (λ d. d ≡ 1) refl) us
  ones-set [] h = tt
  ones-set (u ∷ us) h = ((λ x e. rw (said-none (alpha_in f) u.bytes (header_in u) x e h.0) tt), ones-set us h.1)

  pub all_ones : All (λ (u : Nal). is_prefix_sei (header_in u) ≡ false) (units_in f) → All (λ d. d ≡ 1) ds
  all_ones h = all_of (λ d. d ≡ 1) refl (ones-set (units_in f) h)

  -- a frame has a duration that was set before it, and 1 where none was
  module _ (before : List Nal) (v : Nal) (after : List Nal) (b : starts_frame v.bytes ≡ true) where
    pub next-lasts : (u : Nal) (between : List Nal) → units_in f ≡ before ++ (u ∷ (between ++ (v ∷ after))) → frame_starts between ≡ 0
        → (d : ℕ) → SetsDuration u d → get_or ds (frame_starts before) 0 ≡ d
    next-lasts u between e z d h =
        let g = walk (alpha_in f) before (u ∷ (between ++ (v ∷ after))) true nothing [] ds (λ _. refl) (rw e at well) in
        let s = sets (alpha_in f) u (between ++ (v ∷ after)) g.wait g.so_far ds d h g.left in
        let k = keeps (alpha_in f) between (v ∷ after) _ g.so_far ds s.1 z (inl s.0) in
        let n : frame_starts before ≡ length g.so_far = omega (arith, g.count) in
        ap (λ (m : ℕ). get_or ds m 0) n ∙ frame_at (alpha_in f) v after _ g.so_far ds b k ∙ select-false 1 d (ne_eqb d 0 s.0)

    pub alone-lasts : (between : List Nal) → units_in f ≡ before ++ (between ++ (v ∷ after)) → frame_starts between ≡ 0
        → last_starts true before ≡ true → All SetsNone between → get_or ds (frame_starts before) 0 ≡ 1
    alone-lasts between e z t h =
        let g = walk (alpha_in f) before (between ++ (v ∷ after)) true nothing [] ds (λ _. refl) (rw e at well) in
        let k = keeps (alpha_in f) between (v ∷ after) g.wait g.so_far ds g.left z (inr h) in
        let n : frame_starts before ≡ length g.so_far = omega (arith, g.count) in
        ap (λ (m : ℕ). get_or ds m 0) n ∙ frame_at (alpha_in f) v after g.wait g.so_far ds b k
        ∙ ap (λ (w : Waiting). lasting w.duration) (g.taken t) ∙ select-true 1 0 refl

  pub enough-is : enough (record_in f).animation_flag (length ds) ≡ true
  enough-is = (frames-parts f ds o).2
