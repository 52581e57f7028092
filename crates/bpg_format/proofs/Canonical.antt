-- The canonical form pins the picture down: equal bytes exactly for equal pictures, idempotent, and minimal. A content is determined by its
-- picture and its choices, and changing choices keeps the picture.
use mathlib.Core.Path.{◌≡◌, refl, sym, ap, ap₂, ◌∙◌, subst}
use mathlib.Core.Bool.{true}
use mathlib.Core.List.{List, [], ◌∷◌, ◌++◌, map, append_assoc}
use mathlib.Core.Logic.{◌↔◌}
use Prim.Native.Nat.{ℕ, ◌≤◌}
use lib.ListN.{length, drop}
use lib.Seq.{drop-append_seam}
use Rattle.bpg_codec.specs.Select.{select}
use Rattle.bpg_codec.specs.Lawful.{All}
use Rattle.bpg_codec.proofs.Select.{select-true, select-false}
use Rattle.bpg_format.specs.Content.{Extension, AnimationControl, Content}
use Rattle.bpg_format.specs.Syntax.{file_of}
use Rattle.bpg_format.specs.Rules.{AnimationPayload, is_animation, ExtensionRules, has_animation, OneAnimation, Rules}
use Rattle.bpg_format.specs.Pictures.{Picture, Choices, picture_entry, picture_of, entry_with, with_choices, canonical_choices, canonical_content, canonical_bytes, animation_bytes}
use Rattle.bpg_format.proofs.RuleLaws.{bool-apart, by-tag}
use Rattle.bpg_format.proofs.ReadingLaws.{content-unique}
use Rattle.bpg_format.proofs.CanonicalLaws.{same-picture, shorter, canonical-rules}

-- ---- the canonical form

canonical-of : (c d : Content) → picture_of c ≡ picture_of d → canonical_content c ≡ canonical_content d
unfolding canonical_content
canonical-of c d e = ap (λ (p : Picture). with_choices p (canonical_choices p)) e

pub equal-exactly : (c d : Content) → Rules c → Rules d → (canonical_bytes c ≡ canonical_bytes d) ↔ (picture_of c ≡ picture_of d)
unfolding canonical_bytes
equal-exactly c d r s = (
  λ e. sym (same-picture c) ∙ ap picture_of (content-unique (canonical_content c) (canonical_content d) (canonical-rules c r) (canonical-rules d s) e) ∙ same-picture d,
  λ e. ap file_of (canonical-of c d e),
)

pub again : (c : Content) → canonical_bytes (canonical_content c) ≡ canonical_bytes c
unfolding canonical_bytes
again c = ap file_of (canonical-of (canonical_content c) c (same-picture c))

pub minimal : (c d : Content) → Rules d → picture_of d ≡ picture_of c → length (canonical_bytes c) ≤ length (file_of d)
unfolding canonical_bytes
minimal c d s e = subst (λ (x : Content). length (file_of x) ≤ length (file_of d)) (canonical-of d c e) (shorter d s)

-- ---- picture and choices

-- what follows the loop numbers p in a payload
abbrev pub dummy_in : AnimationControl → List ℕ → List ℕ
dummy_in p l = drop (length (animation_bytes p [])) l

-- the choices that a content has made
unfoldable pub dummy_of : AnimationControl → List Extension → List ℕ
dummy_of p [] = []
dummy_of p (e ∷ es) = select (is_animation e) (dummy_in p e.payload) (dummy_of p es)

unfoldable pub choices_of : Content → Choices
choices_of c =
    record {
      explicit_length = c.explicit_length;
      extension_present = c.flags.extension_present;
      alpha_sps = c.alpha_header.sps_extension_present_flag;
      alpha_range = c.alpha_header.sps_range_extension_flag;
      color_sps = c.color_header.sps_extension_present_flag;
      color_range = c.color_header.sps_range_extension_flag;
      dummy = dummy_of c.control c.extensions;
    }

dummy-in : (l : List ℕ) (p : AnimationControl) (d : List ℕ) → AnimationPayload l p d → dummy_in p l ≡ d
dummy-in l p d r =
    let e : l ≡ animation_bytes p [] ++ d = r.is ∙ simp append_assoc in
    rw e (drop-append_seam (animation_bytes p []) d)

payload-back : (p : AnimationControl) (d : List ℕ) (e : Extension) → ExtensionRules p e → (is_animation e ≡ true → d ≡ dummy_in p e.payload)
    → (entry_with p d (picture_entry e)).payload ≡ e.payload
payload-back p d e r f =
    by-tag (is_animation e)
    (λ l. let x = r.control l in select-true _ _ l ∙ ap (animation_bytes p) (f l ∙ dummy-in e.payload p x.0 x.1) ∙ sym x.1.is)
    (λ l. select-false _ _ l ∙ select-false _ _ l)

entries-back : (p : AnimationControl) (d : List ℕ) (es : List Extension) → All (ExtensionRules p) es → OneAnimation es → (has_animation es ≡ true → d ≡ dummy_of p es)
    → map (entry_with p d) (map picture_entry es) ≡ es
unfolding dummy_of
entries-back p d [] r o f = refl
entries-back p d (e ∷ es) r o f =
    ap₂ ◌∷◌
    (ap {B = Extension} (λ (l : List ℕ). record { tag = e.tag; payload = l }) (payload-back p d e r.0 (λ l. f (rw l) ∙ select-true _ _ l)))
    (entries-back p d es r.1 o.1 (λ h. by-tag (is_animation e) (λ l. bool-apart h (o.0 l)) (λ l. f (rw l h) ∙ select-false _ _ l)))

rebuilt : (c : Content) → Rules c → with_choices (picture_of c) (choices_of c) ≡ c
unfolding picture_of with_choices choices_of
rebuilt c r = rw (entries-back c.control (dummy_of c.control c.extensions) c.extensions r.entries r.one-animation (λ _. refl))

pub determined : (c d : Content) → Rules c → Rules d → picture_of c ≡ picture_of d → choices_of c ≡ choices_of d → c ≡ d
determined c d r s e f = sym (rebuilt c r) ∙ ap₂ with_choices e f ∙ rebuilt d s
