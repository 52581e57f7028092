-- How often a tag stands among entries.
use mathlib.Core.Path.{◌≡◌, ap, ◌∙◌}
use mathlib.Core.List.{List, [], ◌∷◌}
use mathlib.Core.Logic.{◌≢◌}
use Prim.Native.Nat.{ℕ, zero, suc, ◌≤◌, ◌<◌}
use native.Mathlib.Omega.{arith}
use lib.Dec.{eqb}
use lib.ListN.{length, get_or}
use borrow.Author.Tests.{eqb-true, eqb-false}
use Rattle.bpg_format.specs.declared.record.Entry.{Entry}
use Rattle.bpg_format.specs.Zero.{zero_entry}
use Rattle.bpg_segment_rules.proofs.TestLaws.{by_cases}
use Rattle.bpg_segment_export.specs.Calls.{with_tag}
use Rattle.bpg_segment_export.proofs.TagLaws.{no-entries, tag-matches, tag-differs}

module _ (tag : ℕ) where
  -- this entry has the tag
  abbrev pub HasAt : List Entry → ℕ → Type 0
  HasAt es k = (k < length es) × ((get_or es k zero_entry).tag ≡ tag)

  -- the entry matches or it does not
  pub either : {P : Type 0} (e : Entry) → (e.tag ≡ tag → P) → (e.tag ≢ tag → P) → P
  either e f g = by_cases (eqb e.tag tag) (λ t. f (eqb-true _ _ t)) (λ t. g (eqb-false _ _ t))

  longer : (e : Entry) (es : List Entry) → length (with_tag tag es) ≤ length (with_tag tag (e ∷ es))
  longer e es =
      either e (λ t. omega (arith, ap length (tag-matches tag e es t))) (λ t. omega (arith, ap length (tag-differs tag e es t)))

  pub one : (es : List Entry) (k : ℕ) → HasAt es k → 1 ≤ length (with_tag tag es)
  one [] k h = absurd (omega (arith, h.0))
  one (e ∷ es) zero h = omega (arith, ap length (tag-matches tag e es h.1))
  one (e ∷ es) (suc k) h = omega (arith, longer e es, one es k (omega (arith, h.0), h.1))

  pub two : (es : List Entry) (i j : ℕ) → i < j → HasAt es i → HasAt es j → 2 ≤ length (with_tag tag es)
  two [] i j n a b = absurd (omega (arith, a.0))
  two (e ∷ es) i zero n a b = absurd (omega (arith, n))
  two (e ∷ es) zero (suc j) n a b = omega (arith, ap length (tag-matches tag e es a.1), one es j (omega (arith, b.0), b.1))
  two (e ∷ es) (suc i) (suc j) n a b = omega (arith, longer e es, two es i j (omega (arith, n)) (omega (arith, a.0), a.1) (omega (arith, b.0), b.1))

  pub some : (es : List Entry) → 1 ≤ length (with_tag tag es) → (k : ℕ) × HasAt es k
  some [] h = absurd (omega (arith, h, ap length (no-entries tag)))
  some (e ∷ es) h =
      either e (λ t. (0, (omega arith, t)))
      (λ t. let r = some es (omega (arith, h, ap length (tag-differs tag e es t))) in (suc r.0, (omega (arith, r.1.0), r.1.1)))

  abbrev pub Pair : List Entry → Type 0
  Pair es = (i : ℕ) × (j : ℕ) × (i < j) × HasAt es i × HasAt es j

  pub pair : (es : List Entry) → 2 ≤ length (with_tag tag es) → Pair es
  pair [] h = absurd (omega (arith, h, ap length (no-entries tag)))
  pair (e ∷ es) h =
      either e
      (λ t.
      let r = some es (omega (arith, h, ap length (tag-matches tag e es t))) in
      (0, suc r.0, omega arith, (omega arith, t), (omega (arith, r.1.0), r.1.1)))
      (λ t.
      let r = pair es (omega (arith, h, ap length (tag-differs tag e es t))) in
      (suc r.0, suc r.1, omega (arith, r.2), (omega (arith, r.3.0), r.3.1), (omega (arith, r.4.0), r.4.1)))

  -- the only one is the first
  pub only : (es : List Entry) (k : ℕ) → length (with_tag tag es) ≤ 1 → HasAt es k → get_or (with_tag tag es) 0 zero_entry ≡ get_or es k zero_entry
  only [] k n h = absurd (omega (arith, h.0))
  only (e ∷ es) zero n h = ap (λ (l : List Entry). get_or l 0 zero_entry) (tag-matches tag e es h.1)
  only (e ∷ es) (suc k) n h =
      let later : HasAt es k = (omega (arith, h.0), h.1) in
      either e
      (λ t. absurd (omega (arith, n, ap length (tag-matches tag e es t), one es k later)))
      (λ t. ap (λ (l : List Entry). get_or l 0 zero_entry) (tag-differs tag e es t) ∙ only es k (omega (arith, n, ap length (tag-differs tag e es t))) later)

  pub none : (es : List Entry) → ((k : ℕ) → k < length es → (get_or es k zero_entry).tag ≢ tag) → with_tag tag es ≡ []
  none [] h = no-entries tag
  none (e ∷ es) h = tag-differs tag e es (h 0 (omega arith)) ∙ none es (λ k n. h (suc k) (omega (arith, n)))
