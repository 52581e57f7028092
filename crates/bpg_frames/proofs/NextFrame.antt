-- A duration is that of the next frame: what waits from unit to unit.
use mathlib.Core.Path.{◌≡◌, refl, sym, ap, ◌∙◌}
use mathlib.Core.Bool.{Bool, true, false, not, ◌&&◌}
use mathlib.Core.List.{List, [], ◌∷◌, ◌++◌, append_assoc}
use mathlib.Core.Logic.{◌⊎◌, inl, inr, ⊎_elim, ◌≢◌}
use Prim.Native.Nat.{ℕ, suc, ◌+◌}
use native.Mathlib.Omega.{arith}
use lib.Dec.{eqb, ltb}
use lib.ListN.{length, get_or, length-append}
use lib.Seq.{get_or-append_seam}
use borrow.Author.Tests.{eq-eqb, ne_eqb}
use Rattle.bpg_codec.specs.Outcome.{ok}
use Rattle.bpg_codec.specs.Lawful.{All}
use Rattle.bpg_codec.proofs.Outcome.{ok-injective}
use Rattle.bpg_codec.proofs.Select.{select-true, select-false}
use Rattle.bpg_nal_units.specs.declared.nal_header.NalHeader.{NalHeader}
use Rattle.bpg_nal_units.specs.Units.{Nal}
use Rattle.bpg_nal_units.proofs.Cases.{by-test, by_equal, one_answer, and-false}
use Rattle.bpg_frame_units.specs.declared.wait.Waiting.{Waiting}
use Rattle.bpg_frame_units.specs.Units.{Said, is_slice, is_prefix_sei, starts_frame, kind_says}
use Rattle.bpg_frame_units.specs.Frames.{settles, judged, nothing, lasting, frames_from}
use Rattle.bpg_frames.specs.Requirements.{header_in, frame_starts, last_starts, SetsDuration, SetsNone}
use Rattle.bpg_frame_units.proofs.UnitLaws.{unit-passed, judged-passed, judged-settles}
use Rattle.bpg_frame_units.proofs.SaidLaws.{said-starts, said-none, sei-said}
use Rattle.bpg_frame_units.proofs.FrameLaws.{frames-judged, frames-starts, frames-goes}
use Rattle.bpg_frames.proofs.Growth.{grows}

-- ---- units

sei-no-slice : (h : NalHeader) → is_prefix_sei h ≡ true → is_slice h ≡ false
sei-no-slice h e =
    by_equal h.nal_unit_type 39
    (λ t. and-false (eqb h.nuh_layer_id 0) (ltb h.nal_unit_type 32) (rw t))
    (λ n. one_answer e (and-false (eqb h.nuh_layer_id 0) (eqb h.nal_unit_type 39) (ne_eqb h.nal_unit_type 39 n)))

-- where a duration waits, none is set
none-set : (w : ℕ) (l : List ℕ) → w ≢ 0 → settles w l ≡ true → l ≡ []
none-set w [] n e = refl
none-set w (d ∷ l) n e = one_answer e (and-false (not (eqb d 0)) (eqb w 0 && settles d l) (rw (ne_eqb w 0 n)))

-- a duration that is set is not 0
set-some : (w d : ℕ) → settles w (d ∷ []) ≡ true → d ≢ 0
set-some w d e z = one_answer e (rw (eq-eqb d 0 z))

module _ (alpha : Bool) where
  -- what a unit says, of units that are all well
  pub record Says (u : Nal) (w : Waiting) : Type 0 where
    pub said : Said
    pub was : judged alpha w.duration u.bytes ≡ ok said
    pub kind : kind_says alpha u.bytes (header_in u) ≡ ok said
    pub starts : said.starts ≡ starts_frame u.bytes
    pub settled : settles w.duration said.durations ≡ true

  says : (u : Nal) (us : List Nal) (w : Waiting) (ds all : List ℕ) → frames_from alpha (u ∷ us) w ds ≡ ok all → Says u w
  says u us w ds all e =
      let j = frames-judged alpha w ds u us all e in
      let k = (unit-passed alpha u.bytes j.0 (judged-passed alpha w.duration u.bytes j.0 j.1)).2 in
      record {
        said = j.0;
        was = j.1;
        kind = k;
        starts = said-starts alpha u.bytes (header_in u) j.0 k;
        settled = judged-settles alpha w.duration u.bytes j.0 j.1;
      }

  none_said : (u : Nal) (w : Waiting) (x : Says u w) → SetsNone u → x.said.durations ≡ []
  none_said u w x h =
      by-test (is_prefix_sei (header_in u))
      (λ s.
      ok-injective (sym (sei-said alpha u.bytes (header_in u) x.said x.kind (sei-no-slice (header_in u) s) s).1 ∙ h s))
      (said-none alpha u.bytes (header_in u) x.said x.kind)

  -- ---- some units, and those after them

  pub record Walked (us rest : List Nal) (none : Bool) (ds all : List ℕ) : Type 0 where
    pub wait : Waiting
    pub so_far : List ℕ
    pub count : length so_far ≡ length ds + frame_starts us
    pub left : frames_from alpha rest wait so_far ≡ ok all
    -- a frame that starts takes what waits
    pub taken : last_starts none us ≡ true → wait ≡ nothing

  pub walk : (us rest : List Nal) (none : Bool) (w : Waiting) (ds all : List ℕ) → (none ≡ true → w ≡ nothing) → frames_from alpha (us ++ rest) w ds ≡ ok all
      → Walked us rest none ds all
  unfolding frame_starts last_starts
  walk [] rest none w ds all h e = record { wait = w; so_far = ds; count = omega arith; left = e; taken = h }
  walk (u ∷ us) rest none w ds all h e =
      let x = says u (us ++ rest) w ds all e in
      by-test x.said.starts
      (λ b.
      let g = walk us rest (starts_frame u.bytes) nothing (ds ++ (lasting w.duration ∷ [])) all (λ _. refl)
      (sym (frames-starts alpha w ds u (us ++ rest) x.said x.was b) ∙ e) in
      let n = select-true (suc (frame_starts us)) (frame_starts us) (sym x.starts ∙ b) in
      record {
        wait = g.wait;
        so_far = g.so_far;
        count = omega (arith, g.count, n, length-append ds (lasting w.duration ∷ []));
        left = g.left;
        taken = g.taken;
      })
      (λ b.
      let g = walk us rest (starts_frame u.bytes) _ ds all (λ t. one_answer t (sym x.starts ∙ b))
      (sym (frames-goes alpha w ds u (us ++ rest) x.said x.was b) ∙ e) in
      let n = select-false (suc (frame_starts us)) (frame_starts us) (sym x.starts ∙ b) in
      record { wait = g.wait; so_far = g.so_far; count = omega (arith, g.count, n); left = g.left; taken = g.taken })

  -- ---- to the next frame

  -- what waits still waits where no frame starts: no other duration may be set, or none is
  pub keeps : (us rest : List Nal) (w : Waiting) (ds all : List ℕ) → frames_from alpha (us ++ rest) w ds ≡ ok all → frame_starts us ≡ 0
      → (w.duration ≢ 0) ⊎ All SetsNone us → frames_from alpha rest w ds ≡ ok all
  unfolding frame_starts
  keeps [] rest w ds all e z h = e
  keeps (u ∷ us) rest w ds all e z h =
      let x = says u (us ++ rest) w ds all e in
      by-test x.said.starts
      (λ b. absurd (omega (arith, z, select-true (suc (frame_starts us)) (frame_starts us) (sym x.starts ∙ b))))
      (λ b.
      let none : x.said.durations ≡ [] =
      ⊎_elim (λ n. none-set w.duration _ n x.settled) (λ a. none_said u w x a.0) h
      in
      keeps us rest w ds all (rw none at (sym (frames-goes alpha w ds u (us ++ rest) x.said x.was b)) ∙ e)
      (sym (select-false (suc (frame_starts us)) (frame_starts us) (sym x.starts ∙ b)) ∙ z)
      (⊎_elim (λ n. inl n) (λ a. inr a.1) h))

  -- a unit that sets a duration
  pub sets : (u : Nal) (us : List Nal) (w : Waiting) (ds all : List ℕ) (d : ℕ) → SetsDuration u d → frames_from alpha (u ∷ us) w ds ≡ ok all
      → (d ≢ 0) × (frames_from alpha us (record { duration = d; unit = record { 0 = u.start } }) ds ≡ ok all)
  sets u us w ds all d h e =
      let x = says u us w ds all e in
      let s = sei-said alpha u.bytes (header_in u) x.said x.kind (sei-no-slice (header_in u) h.sei) h.sei in
      let is : x.said.durations ≡ d ∷ [] = ok-injective (sym s.1 ∙ h.one) in (
        set-some w.duration d (rw is at x.settled),
        rw is at (sym (frames-goes alpha w ds u us x.said x.was s.0)) ∙ e,
      )

  -- the frame that starts lasts as long as what waits says
  pub frame_at : (v : Nal) (us : List Nal) (w : Waiting) (ds all : List ℕ) → starts_frame v.bytes ≡ true → frames_from alpha (v ∷ us) w ds ≡ ok all
      → get_or all (length ds) 0 ≡ lasting w.duration
  frame_at v us w ds all b e =
      let x = says v us w ds all e in
      let t = lasting w.duration in
      let g = grows us alpha nothing (ds ++ (t ∷ [])) all (sym (frames-starts alpha w ds v us x.said x.was (x.starts ∙ b)) ∙ e) in
      ap (λ (l : List ℕ). get_or l (length ds) 0) (g.1 ∙ append_assoc ds (t ∷ []) g.0) ∙ get_or-append_seam ds t g.0 0
