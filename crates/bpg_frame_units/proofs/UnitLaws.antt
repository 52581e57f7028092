-- What a unit says, case by case, and as the code answers it.
use mathlib.Core.Path.{◌≡◌, refl, sym, ap, ◌∙◌}
use mathlib.Core.Bool.{Bool, true, false, not, ◌&&◌}
use mathlib.Core.List.{List, [], ◌∷◌}
use mathlib.Core.Logic.{◌⊎◌, inl, inr}
use Prim.Native.Nat.{ℕ, suc, ◌≤◌, ◌<◌, ◌%◌}
use native.Mathlib.Omega.{arith}
use lib.Dec.{eqb, leb}
use lib.ListN.{length, drop, get_or}
use borrow.Author.Tests.{eq-eqb, ne_eqb, le-leb, lt-leb, leb-true, eqb-false}
use Rattle.bpg_codec.specs.Outcome.{Outcome, ok, error, ◌>>=◌, guard}
use Rattle.bpg_codec.proofs.Outcome.{ok-injective, error-not-ok, unbind, unguard}
use Rattle.bpg_codec.proofs.Select.{select-true, select-false, is_true, is_false}
use Rattle.bpg_nal_units.specs.declared.nal_header.NalHeader.{NalHeader}
use Rattle.bpg_nal_units.specs.Headers.{header_of}
use Rattle.bpg_nal_units.proofs.Cases.{by_equal, and-false}
use Rattle.bpg_nal_emulation.specs.Emulation.{zeros_after, unescape, keeps_rules, content_at}
use Rattle.bpg_nal_emulation.proofs.WalkLaws.{zeros-byte, zeros-first, mark-no-zeros, un-byte}
use Rattle.bpg_sei.specs.declared.messages.Durations.{Durations}
use Rattle.bpg_sei.specs.Messages.{durations_in}
use Rattle.bpg_sei.specs.Steps.{last_of, summary, summed_up}
use Rattle.bpg_frame_units.specs.declared.kind.Verdict.{Verdict}
use Rattle.bpg_frame_units.specs.Units.{Said, is_slice, is_prefix_sei, allowed_unit, slice_says, sei_says, other_says, kind_says, unit_says}
use Rattle.bpg_frame_units.specs.Frames.{settles, judged}
use Rattle.bpg_frame_units.specs.Answers.{verdict_of, settles_by}

-- ---- a slice

module _ (u : List ℕ) where
  pub slice-short : length u < 3 → error 22 0 ≡ verdict_of (slice_says u)
  unfolding slice_says
  slice-short h = rw (lt-leb 3 (length u) h)

  pub slice-says : 3 ≤ length u → (v : Verdict) → v.starts ≡ leb 128 (get_or u 2 0) → v.durations ≡ summary [] → ok v ≡ verdict_of (slice_says u)
  unfolding slice_says
  slice-says h v e f = rw (le-leb 3 (length u) h, ← e, ← f)

-- no durations
pub summary-none : (d : Durations) → d.count ≡ 0 → d.last ≡ 0 → d ≡ summary []
unfolding last_of
summary-none d e f = ap (λ n. record { count = n; last = d.last }) e ∙ ap (λ n. record { count = 0; last = n }) f

-- ---- a prefix SEI

-- behind a header whose second byte is not 0 the content goes on as if it began there
behind-bytes : (a b : ℕ) (l : List ℕ) → (b ≡ 0 → ⊥) → drop 2 (unescape (a ∷ b ∷ l)) ≡ content_at (a ∷ b ∷ l) 2 0
unfolding content_at
behind-bytes a b l h =
    let few : zeros_after 0 a ≡ 2 → ⊥ =
    λ e. by_equal a 0 (λ f. let g = zeros-first 0 a f refl in omega arith) (λ f. let g = zeros-byte 0 a f in omega arith)
    in
    rw (
      un-byte 0 a (b ∷ l) (mark-no-zeros 0 a (λ e. omega arith)),
      un-byte (zeros_after 0 a) b l (mark-no-zeros (zeros_after 0 a) b few),
      zeros-byte (zeros_after 0 a) b h,
    )

pub behind-header : (u : List ℕ) → (get_or u 1 0 ≡ 0 → ⊥) → drop 2 (unescape u) ≡ content_at u 2 0
behind-header [] h = absurd (h refl)
behind-header (a ∷ []) h = absurd (h refl)
behind-header (a ∷ b ∷ l) h = behind-bytes a b l h

pub sei-says : (u : List ℕ) → (get_or u 1 0 ≡ 0 → ⊥) → (o : Outcome Durations) → o ≡ summed_up (durations_in (content_at u 2 0))
    → (o >>= λ d. ok (record { starts = false; durations = d })) ≡ verdict_of (sei_says u)
unfolding sei_says
sei-says u h o e = rw (behind-header u h, e) (by (durations_in (content_at u 2 0)))
  where
    by : (r : Outcome (List ℕ))
        → (summed_up r >>= λ d. ok (record { starts = false; durations = d })) ≡ verdict_of (r >>= λ ds. ok (record { starts = false; durations = ds }))
    by (ok ds) = refl
    by (error t p) = refl

-- ---- by its kind

module _ (alpha : Bool) (u : List ℕ) (h : NalHeader) where
  pub kind-slice : is_slice h ≡ true → kind_says alpha u h ≡ slice_says u
  unfolding kind_says
  kind-slice e = select-true _ _ e

  module _ (n : is_slice h ≡ false) where
    pub kind-sei : is_prefix_sei h ≡ true → kind_says alpha u h ≡ sei_says u
    unfolding kind_says
    kind-sei e = select-false _ _ n ∙ select-true _ _ e

    module _ (m : is_prefix_sei h ≡ false) where
      pub kind-other : kind_says alpha u h ≡ other_says alpha h
      unfolding kind_says
      kind-other = select-false _ _ n ∙ select-false _ _ m

      pub other-passes : allowed_unit alpha h ≡ true → (v : Verdict) → v.starts ≡ false → v.durations ≡ summary []
          → ok v ≡ verdict_of (kind_says alpha u h)
      unfolding other_says
      other-passes e v f g = rw (kind-other, e, ← f, ← g)

      pub other-refused : allowed_unit alpha h ≡ false → error 23 0 ≡ verdict_of (kind_says alpha u h)
      unfolding other_says
      other-refused e = rw (kind-other, e)

-- ---- all of it

module _ (alpha : Bool) (u : List ℕ) where
  abbrev head : NalHeader
  head = header_of (get_or u 0 0) (get_or u 1 0)

  -- whatever its header is
  pub unit-broken : keeps_rules u ≡ false → error 22 0 ≡ verdict_of (unit_says alpha u)
  unfolding unit_says
  unit-broken e = rw e (by (leb 2 (length u)) (not head.forbidden_zero_bit) (not (eqb head.nuh_temporal_id_plus1 0)))
    where
      by : (a b c : Bool)
          → error 22 0
          ≡ verdict_of (guard a 22 0 >>= λ _. guard b 22 0 >>= λ _. guard c 22 0 >>= λ _. guard false 22 0 >>= λ _. kind_says alpha u head)
      by false b c = refl
      by true false c = refl
      by true true false = refl
      by true true true = refl

  pub unit-short : length u < 2 → error 22 0 ≡ verdict_of (unit_says alpha u)
  unfolding unit_says
  unit-short h = rw (lt-leb 2 (length u) h)

  module _ (h : 2 ≤ length u) where
    pub unit-forbidden : head.forbidden_zero_bit ≡ true → error 22 0 ≡ verdict_of (unit_says alpha u)
    unfolding unit_says
    unit-forbidden e = rw (le-leb 2 (length u) h, e)

    module _ (f : head.forbidden_zero_bit ≡ false) where
      pub unit-temporal : head.nuh_temporal_id_plus1 ≡ 0 → error 22 0 ≡ verdict_of (unit_says alpha u)
      unfolding unit_says
      unit-temporal e = rw (le-leb 2 (length u) h, f, eq-eqb head.nuh_temporal_id_plus1 0 e)

      module _ (t : head.nuh_temporal_id_plus1 ≡ 0 → ⊥) where
        pub unit-kind : keeps_rules u ≡ true → kind_says alpha u head ≡ unit_says alpha u
        unfolding unit_says
        unit-kind e = rw (le-leb 2 (length u) h, f, ne_eqb head.nuh_temporal_id_plus1 0 t, e)

  -- a unit that passes has a header with a temporal id
  pub unit-passed : (x : Said) → unit_says alpha u ≡ ok x → (2 ≤ length u) × (get_or u 1 0 ≡ 0 → ⊥) × (kind_says alpha u head ≡ ok x)
  unfolding unit_says
  unit-passed x e =
      unguard (leb 2 (length u)) 22 0 _ e λ a e1.
      unguard (not head.forbidden_zero_bit) 22 0 _ e1 λ b e2.
      unguard (not (eqb head.nuh_temporal_id_plus1 0)) 22 0 _ e2 λ c e3.
      unguard (keeps_rules u) 22 0 _ e3 λ d e4.
      let t = eqb-false (get_or u 1 0 % 8) 0 (is_false _ c) in
      (leb-true 2 (length u) (is_true _ a), λ z. t (rw z), e4)

-- ---- judged

and-true : (a : Bool) → (a && true) ≡ a
and-true true = refl
and-true false = refl

not_not : (a : Bool) → not (not a) ≡ a
not_not true = refl
not_not false = refl

-- two durations clash: the first waits when the second is set
two-clash : (d : ℕ) (a b c : Bool) → (not (eqb d 0) && (a && (b && (eqb d 0 && c)))) ≡ false
two-clash d a b c =
    by_equal d 0 (λ e. rw (eq-eqb d 0 e)) (λ e. rw (ne_eqb d 0 e) (and-false a (b && false) (and-false b false refl)))

pub settles-by : (w : ℕ) (b : Bool) (ds : List ℕ) → b ≡ not (eqb w 0) → settles_by b (summary ds) ≡ settles w ds
unfolding last_of
settles-by w b [] k = refl
settles-by w b (d ∷ []) k = rw (k, and-true (eqb w 0), not_not (eqb w 0))
settles-by w b (d ∷ e ∷ ds) k =
    rw (ne_eqb (suc (suc (length ds))) 0 (λ z. omega arith), ne_eqb (suc (suc (length ds))) 1 (λ z. omega arith))
    (sym (two-clash d (eqb w 0) (not (eqb e 0)) (settles e ds)))

module _ (alpha : Bool) (w : ℕ) (u : List ℕ) where
  abbrev settled : Outcome Said → Outcome Said
  settled o = o >>= λ x. guard (settles w x.durations) 24 0 >>= λ _. ok x

  pub judged-refused : (s : ℕ) → error s 0 ≡ verdict_of (unit_says alpha u) → error s 0 ≡ verdict_of (judged alpha w u)
  unfolding judged
  judged-refused s e = by (unit_says alpha u) e
    where
      by : (o : Outcome Said) → error s 0 ≡ verdict_of o → error s 0 ≡ verdict_of (settled o)
      by (ok x) f = absurd (error-not-ok f)
      by (error t o) f = f

  module _ (v : Verdict) (e : ok v ≡ verdict_of (unit_says alpha u)) (b : Bool) (k : b ≡ not (eqb w 0)) where
    pub judged-settled : settles_by b v.durations ≡ true → ok v ≡ verdict_of (judged alpha w u)
    unfolding judged
    judged-settled t = by (unit_says alpha u) e
      where
        by : (o : Outcome Said) → ok v ≡ verdict_of o → ok v ≡ verdict_of (settled o)
        by (ok x) f =
            f ∙ rw (sym (settles-by w b x.durations k) ∙ sym (ap (λ (y : Verdict). settles_by b y.durations) (ok-injective f)) ∙ t)
        by (error s o) f = f

    pub judged-clash : settles_by b v.durations ≡ false → error 24 0 ≡ verdict_of (judged alpha w u)
    unfolding judged
    judged-clash t = by (unit_says alpha u) e
      where
        by : (o : Outcome Said) → ok v ≡ verdict_of o → error 24 0 ≡ verdict_of (settled o)
        by (ok x) f = rw (sym (settles-by w b x.durations k) ∙ sym (ap (λ (y : Verdict). settles_by b y.durations) (ok-injective f)) ∙ t)
        by (error s o) f = absurd (error-not-ok (sym f))

-- a unit that is judged passes
pub judged-passed : (alpha : Bool) (w : ℕ) (u : List ℕ) (x : Said) → judged alpha w u ≡ ok x → unit_says alpha u ≡ ok x
unfolding judged
judged-passed alpha w u x e =
    unbind (unit_says alpha u) _ e λ y a b.
    unguard (settles w y.durations) 24 0 _ b λ c d.
    a ∙ d

-- and its durations clash with none
pub judged-settles : (alpha : Bool) (w : ℕ) (u : List ℕ) (x : Said) → judged alpha w u ≡ ok x → settles w x.durations ≡ true
unfolding judged
judged-settles alpha w u x e =
    unbind (unit_says alpha u) _ e λ y a b.
    unguard (settles w y.durations) 24 0 _ b λ c d.
    ap (λ (z : Said). settles w z.durations) (sym (ok-injective d)) ∙ is_true _ c

-- one that is refused is refused by itself, or with 24
pub judged-error : (alpha : Bool) (w : ℕ) (u : List ℕ) (s o : ℕ) → judged alpha w u ≡ error s o
    → (unit_says alpha u ≡ error s o) ⊎ ((s ≡ 24) × ((x : Said) × (unit_says alpha u ≡ ok x)))
unfolding judged
judged-error alpha w u s o e = by (unit_says alpha u) refl e
  where
    clash : (x : Said) (b : Bool) → unit_says alpha u ≡ ok x → (guard b 24 0 >>= λ _. ok x) ≡ error s o
        → (unit_says alpha u ≡ error s o) ⊎ ((s ≡ 24) × ((y : Said) × (unit_says alpha u ≡ ok y)))
    clash x true f g = absurd (error-not-ok (sym g))
    clash x false f g = inr ((let h = g in cc), (x, f))

    by : (m : Outcome Said) → unit_says alpha u ≡ m → (m >>= λ x. guard (settles w x.durations) 24 0 >>= λ _. ok x) ≡ error s o
        → (unit_says alpha u ≡ error s o) ⊎ ((s ≡ 24) × ((y : Said) × (unit_says alpha u ≡ ok y)))
    by (ok x) f g = clash x (settles w x.durations) f g
    by (error t p) f g = inl (f ∙ g)
