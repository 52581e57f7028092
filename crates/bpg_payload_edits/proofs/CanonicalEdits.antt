-- The canonical form of a content with payloads replaced: it is the canonical form with the same payloads replaced.
use mathlib.Core.Path.{◌≡◌, refl, sym, ap, ◌∙◌}
use mathlib.Core.Bool.{true, false}
use mathlib.Core.List.{List, [], ◌∷◌, map}
use mathlib.Core.Logic.{◌≢◌}
use Prim.Native.Nat.{ℕ, zero, suc}
use lib.Dec.{eqb}
use lib.ListN.{length, get_or}
use borrow.Author.Tests.{ne_eqb}
use Rattle.bpg_codec.specs.Lawful.{All, Byte}
use Rattle.bpg_codec.proofs.Select.{select-true, select-false}
use Rattle.bpg_format.specs.Content.{is_empty, Extension, AnimationControl, Content}
use Rattle.bpg_format.specs.Rules.{is_animation, ExtensionRules, Rules}
use Rattle.bpg_format.specs.Pictures.{picture_entry, picture_of, animation_bytes, entry_with, with_choices, canonical_content}
use Rattle.bpg_format.specs.Requirements.{no_extension}
use Rattle.bpg_format.proofs.RuleLaws.{by-tag}
use Rattle.bpg_format.proofs.CanonicalLaws.{canonical-rules}
use Rattle.bpg_payload_edits.proofs.EntryEdits.{Replaced, NoControl, AllReplaced}
use Rattle.bpg_payload_edits.proofs.ContentEdits.{with_entries, edited-rules}

module _ (p : AnimationControl) where
  -- an entry of the canonical form: the animation control without dummy bytes, any other entry as it is
  abbrev pub canonical_entry : Extension → Extension
  canonical_entry e = entry_with p [] (picture_entry e)

  abbrev pub canonical_entries : List Extension → List Extension
  canonical_entries es = map (entry_with p []) (map picture_entry es)

  control-payload : (e : Extension) → is_animation e ≡ true → (canonical_entry e).payload ≡ animation_bytes p []
  control-payload e h = select-true _ _ h

  other-payload : (e : Extension) → is_animation e ≡ false → (canonical_entry e).payload ≡ e.payload
  other-payload e h = select-false _ _ h ∙ select-false _ _ h

  entry-replaced : (chosen : Type 0) (e x : Extension) → Replaced chosen e x → All Byte (canonical_entry x).payload → Replaced chosen (canonical_entry e) (canonical_entry x)
  entry-replaced chosen e x r b =
      let tag : is_animation x ≡ is_animation e = ap (λ (n : ℕ). eqb n 5) r.tag in
      by-tag (is_animation e)
      (λ h.
      let same = control-payload x (tag ∙ h) ∙ sym (control-payload e h) in
      record { tag = r.tag; size = ap length same; bytes = b; kept = λ _. same })
      (λ h.
      let x-is = other-payload x (tag ∙ h) in
      let e-is = other-payload e h in
      record { tag = r.tag; size = ap length x-is ∙ r.size ∙ sym (ap length e-is); bytes = b; kept = λ k. x-is ∙ r.kept k ∙ sym e-is })

  entries-replaced : (chosen : ℕ → Type 0) (es xs : List Extension) → AllReplaced chosen es xs → All (ExtensionRules p) (canonical_entries xs)
      → AllReplaced chosen (canonical_entries es) (canonical_entries xs)
  entries-replaced chosen [] [] a s = tt
  entries-replaced chosen [] (x ∷ xs) a s = absurd a
  entries-replaced chosen (e ∷ es) [] a s = absurd a
  entries-replaced chosen (e ∷ es) (x ∷ xs) a s = (
    entry-replaced (chosen 0) e x a.0 s.0.bytes,
    entries-replaced (λ k. chosen (suc k)) es xs a.1 s.1,
  )

  pub canonical-tag : (es : List Extension) (k : ℕ) → (get_or es k no_extension).tag ≡ (get_or (canonical_entries es) k no_extension).tag
  canonical-tag [] k = refl
  canonical-tag (e ∷ es) zero = refl
  canonical-tag (e ∷ es) (suc k) = canonical-tag es k

  -- a payload that is no animation control is as it was
  pub canonical-payload : (es : List Extension) (k : ℕ) → (get_or es k no_extension).tag ≢ 5
      → (get_or (canonical_entries es) k no_extension).payload ≡ (get_or es k no_extension).payload
  canonical-payload [] k h = refl
  canonical-payload (e ∷ es) zero h = other-payload e (ne_eqb _ _ h)
  canonical-payload (e ∷ es) (suc k) h = canonical-payload es k h

  same-empty : (chosen : ℕ → Type 0) (es xs : List Extension) → AllReplaced chosen es xs → is_empty (map picture_entry xs) ≡ is_empty (map picture_entry es)
  same-empty chosen [] [] a = refl
  same-empty chosen [] (x ∷ xs) a = absurd a
  same-empty chosen (e ∷ es) [] a = absurd a
  same-empty chosen (e ∷ es) (x ∷ xs) a = refl

module _ (chosen : ℕ → Type 0) (c : Content) (r : Rules c) (xs : List Extension) (a : AllReplaced chosen c.extensions xs) where
  pub canonical-edited : canonical_content (with_entries c xs) ≡ with_entries (canonical_content c) (canonical_entries c.control xs)
  unfolding picture_of with_choices canonical_content
  canonical-edited = rw (same-empty c.control chosen c.extensions xs a)

  pub canonical-replaced : NoControl chosen c.extensions → AllReplaced chosen (canonical_content c).extensions (canonical_entries c.control xs)
  unfolding picture_of with_choices canonical_content
  canonical-replaced free =
      let s : Rules (with_entries c xs) = edited-rules chosen c r xs a free in
      entries-replaced c.control chosen c.extensions xs a (canonical-rules (with_entries c xs) s).entries
