-- The entries of a block with payloads replaced by payloads of the same lengths: `chosen` says which.
use mathlib.Core.Path.{◌≡◌, refl, sym, ap, ◌∙◌}
use mathlib.Core.Bool.{true}
use mathlib.Core.List.{List, [], ◌∷◌}
use mathlib.Core.Logic.{◌≢◌}
use Prim.Native.Nat.{ℕ, zero, suc}
use lib.Dec.{eqb, eqb→eq}
use lib.ListN.{length, get_or}
use Rattle.bpg_codec.specs.Lawful.{All, Byte}
use Rattle.bpg_format.specs.Content.{Extension, AnimationControl}
use Rattle.bpg_format.specs.Syntax.{block_bytes}
use Rattle.bpg_format.specs.Rules.{is_animation, ExtensionRules, has_animation, OneAnimation}
use Rattle.bpg_format.specs.Records.{entries_at}
use Rattle.bpg_format.specs.Requirements.{no_extension}
use Rattle.bpg_format.proofs.RuleLaws.{entry-size}

-- x stands in e's place: the payload of a chosen entry may differ from it
pub record Replaced (chosen : Type 0) (e x : Extension) : Type 0 where
  pub tag : x.tag ≡ e.tag
  pub size : length x.payload ≡ length e.payload
  pub bytes : All Byte x.payload
  pub kept : (chosen → ⊥) → x.payload ≡ e.payload

-- no chosen entry has tag 5
abbrev pub NoControl : (ℕ → Type 0) → List Extension → Type 0
NoControl chosen es = (k : ℕ) → chosen k → (get_or es k no_extension).tag ≢ 5

-- each in its place
abbrev pub AllReplaced : (ℕ → Type 0) → List Extension → List Extension → Type 0
AllReplaced chosen [] [] = Unit {0}
AllReplaced chosen [] (x ∷ xs) = ⊥
AllReplaced chosen (e ∷ es) [] = ⊥
AllReplaced chosen (e ∷ es) (x ∷ xs) = Replaced (chosen 0) e x × AllReplaced (λ k. chosen (suc k)) es xs

-- ---- what depends on tags and lengths alone

pub same_count : (chosen : ℕ → Type 0) (es xs : List Extension) → AllReplaced chosen es xs → length xs ≡ length es
same_count chosen [] [] a = refl
same_count chosen [] (x ∷ xs) a = absurd a
same_count chosen (e ∷ es) [] a = absurd a
same_count chosen (e ∷ es) (x ∷ xs) a = ap suc (same_count (λ k. chosen (suc k)) es xs a.1)

pub same_size : (chosen : ℕ → Type 0) (es xs : List Extension) → AllReplaced chosen es xs → length (block_bytes xs) ≡ length (block_bytes es)
same_size chosen [] [] a = refl
same_size chosen [] (x ∷ xs) a = absurd a
same_size chosen (e ∷ es) [] a = absurd a
same_size chosen (e ∷ es) (x ∷ xs) a =
    rw (entry-size x xs, entry-size e es, a.0.tag, a.0.size, same_size (λ k. chosen (suc k)) es xs a.1)

pub same_entries : (chosen : ℕ → Type 0) (es xs : List Extension) → AllReplaced chosen es xs → (p : ℕ) → entries_at p xs ≡ entries_at p es
same_entries chosen [] [] a p = refl
same_entries chosen [] (x ∷ xs) a p = absurd a
same_entries chosen (e ∷ es) [] a p = absurd a
same_entries chosen (e ∷ es) (x ∷ xs) a p = rw (a.0.tag, a.0.size, same_entries (λ k. chosen (suc k)) es xs a.1)

pub same-control : (chosen : ℕ → Type 0) (es xs : List Extension) → AllReplaced chosen es xs → has_animation xs ≡ has_animation es
same-control chosen [] [] a = refl
same-control chosen [] (x ∷ xs) a = absurd a
same-control chosen (e ∷ es) [] a = absurd a
same-control chosen (e ∷ es) (x ∷ xs) a = rw (a.0.tag, same-control (λ k. chosen (suc k)) es xs a.1)

pub same_tag : (chosen : ℕ → Type 0) (es xs : List Extension) → AllReplaced chosen es xs → (k : ℕ) → (get_or xs k no_extension).tag ≡ (get_or es k no_extension).tag
same_tag chosen [] [] a k = refl
same_tag chosen [] (x ∷ xs) a k = absurd a
same_tag chosen (e ∷ es) [] a k = absurd a
same_tag chosen (e ∷ es) (x ∷ xs) a zero = a.0.tag
same_tag chosen (e ∷ es) (x ∷ xs) a (suc k) = same_tag (λ k. chosen (suc k)) es xs a.1 k

pub still_one : (chosen : ℕ → Type 0) (es xs : List Extension) → AllReplaced chosen es xs → OneAnimation es → OneAnimation xs
still_one chosen [] [] a o = tt
still_one chosen [] (x ∷ xs) a o = absurd a
still_one chosen (e ∷ es) [] a o = absurd a
still_one chosen (e ∷ es) (x ∷ xs) a o = (
  λ h. same-control (λ k. chosen (suc k)) es xs a.1 ∙ o.0 (sym (ap (λ (n : ℕ). eqb n 5) a.0.tag) ∙ h),
  still_one (λ k. chosen (suc k)) es xs a.1 o.1,
)

-- ---- the animation control is no chosen entry, and stays

control-kept : (chosen : Type 0) (e x : Extension) → Replaced chosen e x → (chosen → e.tag ≢ 5) → is_animation x ≡ true → x.payload ≡ e.payload
control-kept chosen e x r free h = r.kept λ c. free c (sym r.tag ∙ eqb→eq x.tag 5 (rw h tt))

entry-rules : (chosen : Type 0) (p : AnimationControl) (e x : Extension) → Replaced chosen e x → (chosen → e.tag ≢ 5) → ExtensionRules p e → ExtensionRules p x
entry-rules chosen p e x r free s =
    record {
      tag = rw r.tag s.tag;
      bytes = r.bytes;
      control = λ h. rw (control-kept chosen e x r free h) (s.control (sym (ap (λ (n : ℕ). eqb n 5) r.tag) ∙ h));
    }

pub still-rules : (chosen : ℕ → Type 0) (p : AnimationControl) (es xs : List Extension) → AllReplaced chosen es xs → NoControl chosen es
    → All (ExtensionRules p) es → All (ExtensionRules p) xs
still-rules chosen p [] [] a free s = tt
still-rules chosen p [] (x ∷ xs) a free s = absurd a
still-rules chosen p (e ∷ es) [] a free s = absurd a
still-rules chosen p (e ∷ es) (x ∷ xs) a free s = (
  entry-rules (chosen 0) p e x a.0 (free 0) s.0,
  still-rules (λ k. chosen (suc k)) p es xs a.1 (λ k c. free (suc k) c) s.1,
)

pub payload-kept : (chosen : ℕ → Type 0) (es xs : List Extension) → AllReplaced chosen es xs → (k : ℕ) → (chosen k → ⊥)
    → (get_or xs k no_extension).payload ≡ (get_or es k no_extension).payload
payload-kept chosen [] [] a k h = refl
payload-kept chosen [] (x ∷ xs) a k h = absurd a
payload-kept chosen (e ∷ es) [] a k h = absurd a
payload-kept chosen (e ∷ es) (x ∷ xs) a zero h = a.0.kept h
payload-kept chosen (e ∷ es) (x ∷ xs) a (suc k) h = payload-kept (λ k. chosen (suc k)) es xs a.1 k h
