-- The entries with a tag, one after the other.
use mathlib.Core.Path.{◌≡◌, refl, sym, ap, ◌∙◌, subst}
use mathlib.Core.Bool.{Bool, true, false}
use mathlib.Core.List.{List, [], ◌∷◌}
use mathlib.Core.Logic.{◌≢◌}
use Prim.Native.Nat.{ℕ, suc, ◌+◌, ◌≤◌, ◌<◌}
use native.Mathlib.Omega.{arith}
use lib.Dec.{eqb}
use lib.ListN.{length, drop, get_or, drop_of_length-le}
use borrow.Author.Tests.{eq-eqb, ne_eqb, lt-leb}
use Rattle.std.specs.Prelude.{Option, Some, None}
use Rattle.std.specs.Option.{is_some, unwrap_or}
use Rattle.bpg_codec.specs.Select.{select}
use Rattle.bpg_codec.proofs.Lists.{drop-next}
use Rattle.bpg_codec.proofs.Select.{select-true, select-false}
use Rattle.bpg_format.specs.declared.record.Entry.{Entry}
use Rattle.bpg_format.specs.declared.record.Range.{Range}
use Rattle.bpg_format.specs.Zero.{zero_entry, range}
use Rattle.bpg_format.proofs.RuleLaws.{bool-apart}
use Rattle.bpg_segment_rules.proofs.TestLaws.{by_cases}
use Rattle.bpg_segment_export.specs.Calls.{with_tag, at_most_one}
use Rattle.bpg_segment_export.specs.Steps.{only_of}

pub no-entries : (tag : ℕ) → with_tag tag [] ≡ []
unfolding with_tag
no-entries tag = refl

module _ (tag : ℕ) (e : Entry) (es : List Entry) where
  pub tag-matches : e.tag ≡ tag → with_tag tag (e ∷ es) ≡ e ∷ with_tag tag es
  unfolding with_tag
  tag-matches t = select-true _ _ (eq-eqb e.tag tag t)

  pub tag-differs : e.tag ≢ tag → with_tag tag (e ∷ es) ≡ with_tag tag es
  unfolding with_tag
  tag-differs t = select-false _ _ (ne_eqb e.tag tag t)

-- ---- the search

-- what was found so far, of all entries with the tag and of those that are left
abbrev pub Held : Option Range → (all left : List Entry) → Type 0
Held None all left = all ≡ left
Held (Some p) all left = (e : Entry) × (e.payload ≡ p) × (all ≡ e ∷ left)

module _ (tag : ℕ) (es : List Entry) (k : ℕ) (h : k < length es) (d : Entry) where
  abbrev next : Entry
  next = get_or es k d

  abbrev pub left : ℕ → List Entry
  left n = with_tag tag (drop n es)

  first-left : next.tag ≡ tag → left k ≡ next ∷ left (k + 1)
  first-left t = ap (with_tag tag) (drop-next es k d h) ∙ tag-matches tag next (drop (k + 1) es) t

  pub goes-on : (found : Option Range) (all : List Entry) → next.tag ≢ tag → Held found all (left k) → Held found all (left (k + 1))
  goes-on found all t = subst (Held found all) (ap (with_tag tag) (drop-next es k d h) ∙ tag-differs tag next (drop (k + 1) es) t)

  pub first-found : (found : Option Range) (all : List Entry) → is_some found ≡ false → next.tag ≡ tag → Held found all (left k) → Held (Some next.payload) all (left (k + 1))
  first-found None all n t held = (next, refl, held ∙ first-left t)
  first-found (Some p) all n t held = bool-apart refl n

  -- one more is the second
  pub second-found : (found : Option Range) (all : List Entry) → is_some found ≡ true → next.tag ≡ tag → Held found all (left k) → None ≡ only_of all
  second-found None all n t held = bool-apart n refl
  second-found (Some p) all n t held =
      let e = held.2 ∙ ap (λ (l : List Entry). held.0 ∷ l) (first-left t) in
      sym (select-false _ _ (lt-leb (length all) 1 (omega (arith, ap length e))))

pub all-searched : (tag : ℕ) (es : List Entry) (k : ℕ) → length es ≤ k → (found : Option Range) (all : List Entry) → Held found all (with_tag tag (drop k es))
    → Some (unwrap_or found (range 0 0)) ≡ only_of all
all-searched tag es k h found all held = by found (subst (Held found all) (ap (with_tag tag) (drop_of_length-le es {i = k} h) ∙ no-entries tag) held)
  where
    by : (found : Option Range) → Held found all [] → Some (unwrap_or found (range 0 0)) ≡ only_of all
    by None e = rw e (sym (select-true _ _ refl))
    by (Some p) e = rw e.2 (sym (select-true _ _ refl ∙ ap Some e.1))

-- ---- at most once

pub only-none : (es : List Entry) → None ≡ only_of es → at_most_one es ≡ false
only-none es e = by_cases (at_most_one es) (λ t. absurd (not-some (e ∙ select-true _ _ t))) (λ t. t)
  where
    not-some : {p : Range} → ◌≡◌ {A = Option Range} None (Some p) → ⊥
    not-some e = cc

pub only-some : (es : List Entry) (p : Range) → Some p ≡ only_of es → (at_most_one es ≡ true) × (p ≡ (get_or es 0 zero_entry).payload)
only-some es p e = by_cases (at_most_one es) (λ t. (t, injective (e ∙ select-true _ _ t))) (λ t. absurd (not-none (e ∙ select-false _ _ t)))
  where
    injective : {p q : Range} → ◌≡◌ {A = Option Range} (Some p) (Some q) → p ≡ q
    injective e = cc

    not-none : {p : Range} → ◌≡◌ {A = Option Range} (Some p) None → ⊥
    not-none e = cc

-- the first entry with a tag is an entry, or the zero entry
pub first-is : (P : Entry → Type 0) (tag : ℕ) (es : List Entry) → ((k : ℕ) → P (get_or es k zero_entry)) → P (get_or (with_tag tag es) 0 zero_entry)
unfolding with_tag
first-is P tag [] h = h 0
first-is P tag (e ∷ es) h = by (eqb e.tag tag) (first-is P tag es (λ k. h (suc k)))
  where
    by : (b : Bool) → P (get_or (with_tag tag es) 0 zero_entry) → P (get_or (select b (e ∷ with_tag tag es) (with_tag tag es)) 0 zero_entry)
    by true r = rw (select-true (e ∷ with_tag tag es) (with_tag tag es) refl) (h 0)
    by false r = rw (select-false (e ∷ with_tag tag es) (with_tag tag es) refl) r
