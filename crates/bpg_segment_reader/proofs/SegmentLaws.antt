-- What is found at a place of a run: a segment, and a part in it.
use mathlib.Core.Path.{◌≡◌, refl, sym, ap, ap₂, ◌∙◌}
use mathlib.Core.Bool.{true, false}
use Rattle.std.specs.Prelude.{Option, Some, None}
use mathlib.Core.List.{List, [], ◌∷◌}
use Rattle.std.specs.Cmp.Lexicographic.{pointwise}
use Prim.Native.Nat.{ℕ, ◌+◌, ◌-◌, ◌*◌, ◌≤◌, ◌<◌}
use native.Mathlib.Omega.{arith}
use native.Mathlib.Nat.{add-zero}
use lib.Dec.{leb, eqb}
use lib.ListN.{length, take, drop, get_or, length-take, length-drop}
use Rattle.bpg_codec.proofs.Lists.{take-drop}
use lib.Seq.{length-take-le, take-take, drop-drop, get_or-drop}
use borrow.Author.Tests.{le-leb, leb-true, eqb-true, eq-eqb}
use Rattle.bpg_codec.specs.Select.{select}
use Rattle.bpg_codec.specs.Lists.{same}
use Rattle.bpg_codec.proofs.Select.{select-true, select-false}
use Rattle.bpg_segment_rules.specs.Segments.{field, opens, inside, after, holds, payload}
use Rattle.bpg_segment_reader.specs.Places.{PartAt}
use Rattle.bpg_segment_rules.proofs.TestLaws.{false-not-true, and_split, by_cases}
use Rattle.bpg_segment_rules.proofs.SegmentLaws.{taken, passed}

-- the library's comparison of two slices
pairs-same : (l m : List ℕ) → pointwise eqb l m ≡ same l m
pairs-same [] [] = refl
pairs-same [] (y ∷ m) = refl
pairs-same (x ∷ l) [] = refl
pairs-same (x ∷ l) (y ∷ m) = rw (pairs-same l m)

some-injective : {a b : ℕ} → ◌≡◌ {A = Option ℕ} (Some a) (Some b) → a ≡ b
some-injective e = cc

some-not-none : {a : ℕ} → ◌≡◌ {A = Option ℕ} (Some a) None → ⊥
some-not-none e = cc

-- the four tests
module _ (marker : ℕ) (l : List ℕ) where
  pub is_open : get_or l 0 0 ≡ 255 → get_or l 1 0 ≡ marker → 2 ≤ field l → field l + 2 ≤ length l → opens marker l ≡ true
  unfolding opens
  is_open a b c d = rw (eq-eqb _ _ a, eq-eqb _ _ b, le-leb _ _ c, le-leb _ _ d)

  pub not-open : (get_or l 0 0 ≡ 255 → get_or l 1 0 ≡ marker → 2 ≤ field l → field l + 2 ≤ length l → ⊥) → opens marker l ≡ false
  unfolding opens
  not-open f =
      by_cases (opens marker l)
      (λ t.
      let a = and_split (eqb (get_or l 0 0) 255) _ t in
      let b = and_split (eqb (get_or l 1 0) marker) _ a.1 in
      let c = and_split (leb 2 (field l)) _ b.1 in
      absurd (f (eqb-true _ _ a.0) (eqb-true _ _ b.0) (leb-true _ _ c.0) (leb-true _ _ c.1)))
      (λ t. t)

-- the same at an offset of a run
module _ (run : List ℕ) (at marker : ℕ) where
  abbrev pub Answer : Option ℕ → Type 0
  Answer r = r ≡ select (opens marker (drop at run)) (Some (field (drop at run))) None

  byte-0 : get_or (drop at run) 0 0 ≡ get_or run at 0
  byte-0 = get_or-drop at run 0 0 ∙ ap (λ (k : ℕ). get_or run k 0) (add-zero at)

  field_is : (n : ℕ) → n ≡ get_or run (at + 2) 0 * 256 + get_or run (at + 3) 0 → field (drop at run) ≡ n
  unfolding field
  field_is n e = rw (get_or-drop at run 2 0, get_or-drop at run 3 0) (sym e)

  refused : opens marker (drop at run) ≡ false → Answer None
  refused e = sym (select-false _ _ e)

  pub short : length run - at < 4 → Answer None
  short h = refused (not-open marker (drop at run) λ a b c d. let n = length-drop at run in omega arith)

  pub not_first : (get_or run at 0 ≡ 255 → ⊥) → Answer None
  not_first h = refused (not-open marker (drop at run) λ a b c d. h (sym byte-0 ∙ a))

  pub not-second : (get_or run (at + 1) 0 ≡ marker → ⊥) → Answer None
  not-second h = refused (not-open marker (drop at run) λ a b c d. h (sym (get_or-drop at run 1 0) ∙ b))

  module _ (n : ℕ) (e : n ≡ get_or run (at + 2) 0 * 256 + get_or run (at + 3) 0) where
    pub too_small : n < 2 → Answer None
    too_small h = refused (not-open marker (drop at run) λ a b c d. omega (arith, field_is n e))

    pub too_large : length run - at - 2 < n → Answer None
    too_large h = refused (not-open marker (drop at run) λ a b c d. omega (arith, field_is n e, length-drop at run))

    pub whole : get_or run at 0 ≡ 255 → get_or run (at + 1) 0 ≡ marker → 2 ≤ n → n ≤ length run - at - 2 → Answer (Some n)
    whole a b c d =
        let f = field_is n e in
        sym (select-true _ _ (is_open marker (drop at run) (byte-0 ∙ a) (get_or-drop at run 1 0 ∙ b) (omega (arith, f)) (omega (arith, f, length-drop at run))) ∙ ap Some f)

-- what a length field that was found says
module _ (run : List ℕ) (at marker : ℕ) where
  pub answered : (n : ℕ) → Answer run at marker (Some n) → (opens marker (drop at run) ≡ true) × (field (drop at run) ≡ n) × (n + 2 ≤ length (drop at run))
  unfolding opens
  answered n answer =
      by_cases (opens marker (drop at run))
      (λ t.
      let a = and_split (eqb (get_or (drop at run) 0 0) 255) _ t in
      let b = and_split (eqb (get_or (drop at run) 1 0) marker) _ a.1 in
      let c = and_split (leb 2 (field (drop at run))) _ b.1 in
      let e : n ≡ field (drop at run) = some-injective (answer ∙ select-true _ _ t) in
      let d : field (drop at run) + 2 ≤ length (drop at run) = leb-true _ _ c.1 in
      (t, sym e, omega (arith, e, d)))
      (λ t. absurd (some-not-none (answer ∙ select-false _ _ t)))

  -- and what there is where none was found
  pub none-opens : Answer run at marker None → opens marker (drop at run) ≡ false
  none-opens answer = by_cases (opens marker (drop at run)) (λ t. absurd (some-not-none (sym (answer ∙ select-true _ _ t)))) (λ t. t)

module _ (marker : ℕ) (prefix l : List ℕ) where
  pub not-held : (opens marker l ≡ true → same (take (length prefix) (inside l)) prefix ≡ true → length prefix + 1 ≤ length (inside l) → ⊥) → holds marker prefix l ≡ false
  unfolding holds
  not-held f =
      by_cases (holds marker prefix l)
      (λ t.
      let a = and_split (opens marker l) _ t in
      let b = and_split (same (take (length prefix) (inside l)) prefix) _ a.1 in
      absurd (f a.0 b.0 (leb-true _ _ b.1)))
      (λ t. t)

  pub is_held : opens marker l ≡ true → same (take (length prefix) (inside l)) prefix ≡ true → length prefix + 1 ≤ length (inside l) → holds marker prefix l ≡ true
  unfolding holds
  is_held a b c = rw (a, b, le-leb _ _ c)

module _ (run : List ℕ) (at marker : ℕ) (prefix : List ℕ) (inside-run : at ≤ length run) where
  absent : holds marker prefix (drop at run) ≡ false → PartAt run at marker prefix (record { start = at; end = at })
  absent e =
      let z : at - at ≡ 0 = omega arith in
      record {
        from = omega arith;
        ordered = omega arith;
        inside = inside-run;
        is = passed marker prefix (drop at run) e ∙ ap (λ (k : ℕ). (take k (drop at run), drop at run)) (sym z);
      }

  length-inside : length (inside (drop at run)) ≤ field (drop at run) - 2
  unfolding inside
  length-inside = omega (arith, length-take (field (drop at run) - 2) (drop 4 (drop at run)))

  pub absent-none : Answer run at marker None → PartAt run at marker prefix (record { start = at; end = at })
  absent-none answer = absent (not-held marker prefix (drop at run) λ o s k. false-not-true (sym (none-opens run at marker answer) ∙ o))

  pub absent-short : (n : ℕ) → Answer run at marker (Some n) → n < length prefix + 3 → PartAt run at marker prefix (record { start = at; end = at })
  absent-short n answer h = absent (not-held marker prefix (drop at run) λ o s k. let e = (answered run at marker n answer).1 in omega (arith, e, length-inside))

  module _ (n : ℕ) (answer : Answer run at marker (Some n)) (long : length prefix + 3 ≤ n) where
    look : take (length prefix) (inside (drop at run)) ≡ take (at + 4 + length prefix - (at + 4)) (drop (at + 4) run)
    unfolding inside
    look =
        let f = answered run at marker n answer in
        let e : at + 4 + length prefix - (at + 4) ≡ length prefix = omega arith in
        take-take (length prefix) (field (drop at run) - 2) (drop 4 (drop at run)) (omega (arith, f.1))
        ∙ ap₂ (λ (k : ℕ) (l : List ℕ). take k l) (sym e) (drop-drop 4 at run)

    pub absent-other : pointwise eqb (take (at + 4 + length prefix - (at + 4)) (drop (at + 4) run)) prefix ≡ false → PartAt run at marker prefix (record { start = at; end = at })
    absent-other h = absent (not-held marker prefix (drop at run) λ o s k. false-not-true (sym h ∙ pairs-same (take (at + 4 + length prefix - (at + 4)) (drop (at + 4) run)) prefix ∙ ap (λ (l : List ℕ). same l prefix) (sym look) ∙ s))

    has : length (inside (drop at run)) ≡ n - 2
    unfolding inside
    has =
        let f = answered run at marker n answer in
        length-take-le (field (drop at run) - 2) (drop 4 (drop at run)) (omega (arith, f.1, f.2, length-drop 4 (drop at run))) ∙ omega (arith, f.1)

    found-is : (payload prefix (drop at run) ≡ take (at + 2 + n - (at + 4 + length prefix)) (drop (at + 4 + length prefix) run)) × (after (drop at run) ≡ drop (at + 2 + n) run)
    unfolding payload inside after
    found-is =
        let f = answered run at marker n answer in
        let m : field (drop at run) - 2 ≡ length prefix + (at + 2 + n - (at + 4 + length prefix)) = omega (arith, f.1) in
        let d : at + 4 + (field (drop at run) - 2) ≡ at + 2 + n = omega (arith, f.1) in (
          ap₂ (λ (k : ℕ) (l : List ℕ). drop (length prefix) (take k l)) m (drop-drop 4 at run)
              ∙ sym (take-drop (at + 2 + n - (at + 4 + length prefix)) (length prefix) (drop (at + 4) run))
              ∙ ap (take (at + 2 + n - (at + 4 + length prefix))) (drop-drop (length prefix) (at + 4) run),
          ap (drop (field (drop at run) - 2)) (drop-drop 4 at run) ∙ drop-drop (field (drop at run) - 2) (at + 4) run ∙ ap (λ (k : ℕ). drop k run) d,
        )

    pub present : pointwise eqb (take (at + 4 + length prefix - (at + 4)) (drop (at + 4) run)) prefix ≡ true → PartAt run at marker prefix (record { start = at + 4 + length prefix; end = at + 2 + n })
    present h =
        let f = answered run at marker n answer in
        let t = is_held marker prefix (drop at run) f.0 (ap (λ (l : List ℕ). same l prefix) look ∙ sym (pairs-same (take (at + 4 + length prefix - (at + 4)) (drop (at + 4) run)) prefix) ∙ h) (omega (arith, has)) in
        record {
          from = omega arith;
          ordered = omega arith;
          inside = omega (arith, f.2, length-drop at run);
          is = taken marker prefix (drop at run) t ∙ ap₂ (λ (a b : List ℕ). (a, b)) found-is.0 found-is.1;
        }
