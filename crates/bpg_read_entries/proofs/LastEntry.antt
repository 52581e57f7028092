-- A block with one more entry at its end: entries, bytes, loop numbers.
use mathlib.Core.Path.{◌≡◌, refl, sym, ap, ◌∙◌, subst}
use mathlib.Core.Bool.{Bool, true, false, ◌||◌, or-false, or_assoc}
use mathlib.Core.List.{List, [], ◌∷◌, ◌++◌, append_assoc}
use Prim.Native.Nat.{ℕ, suc, ◌+◌, ◌-◌, ◌<◌}
use native.Mathlib.Omega.{arith}
use lib.Dec.{T}
use lib.ListN.{length, set, replicate, length-append}
use Rattle.bpg_codec.specs.Select.{select}
use Rattle.bpg_ue7.specs.Ue7.{ue7_bytes}
use Rattle.bpg_format.specs.Limits.{max_entries}
use Rattle.bpg_format.specs.declared.record.Entry.{Entry}
use Rattle.bpg_format.specs.Zero.{range, zero_entry}
use Rattle.bpg_format.specs.Content.{Extension, AnimationControl}
use Rattle.bpg_format.specs.Syntax.{extension_bytes, block_bytes}
use Rattle.bpg_format.specs.Rules.{is_animation, has_animation}
use Rattle.bpg_format.specs.Read.{read_animation, animation_from, animation_of}
use Rattle.bpg_format.specs.Records.{entries_at, pad_entries}

earlier : (a b c : Bool) → (b ≡ true → (a || c) ≡ false) → (p q r s : AnimationControl) → ((b ≡ true → c ≡ false) → q ≡ select b r s)
    → select a p q ≡ select b r (select a p s)
unfolding select
earlier true true c h p q r s ih = absurd (subst T (h refl) tt)
earlier true false c h p q r s ih = refl
earlier false true c h p q r s ih = ih h
earlier false false c h p q r s ih = ih (λ e. h e)

-- ---- entries, bytes and loop numbers

module _ (e : Extension) where
  abbrev one : List Extension
  one = e ∷ []

  pub entries-snoc : (es : List Extension) (p : ℕ) → entries_at p (es ++ one) ≡ entries_at p es ++ entries_at (p + length (block_bytes es)) one
  entries-snoc [] p = let n : p ≡ p + 0 = omega arith in ap (λ (k : ℕ). entries_at k one) n
  entries-snoc (x ∷ es) p =
      let tag = ue7_bytes x.tag in
      let size = ue7_bytes (length x.payload) in
      let start = p + length tag + length size in
      let n1 = length-append (extension_bytes x) (block_bytes es) in
      let n2 = length-append tag (size ++ x.payload) in
      let n3 = length-append size x.payload in
      let n : start + length x.payload + length (block_bytes es) ≡ p + length (block_bytes (x ∷ es)) = omega arith in
      ap (λ (l : List Entry). record { tag = x.tag; payload = range start (length x.payload); tag_offset = p } ∷ l)
      (entries-snoc es (start + length x.payload) ∙ ap (λ (k : ℕ). entries_at (start + length x.payload) es ++ entries_at k one) n)

  pub bytes-snoc : (es : List Extension) → length (block_bytes (es ++ one)) ≡ length (block_bytes es) + length (extension_bytes e)
  bytes-snoc [] = let n = length-append (extension_bytes e) [] in omega arith
  bytes-snoc (x ∷ es) =
      let n1 = length-append (extension_bytes x) (block_bytes (es ++ one)) in
      let n2 = length-append (extension_bytes x) (block_bytes es) in
      omega (arith, bytes-snoc es)

  pub has-snoc : (es : List Extension) → has_animation (es ++ one) ≡ (has_animation es || is_animation e)
  has-snoc [] = or-false (is_animation e)
  has-snoc (x ∷ es) = rw (has-snoc es, or_assoc)

  -- the last has tag 5 only where none before it has
  pub loop-snoc : (es : List Extension) → (is_animation e ≡ true → has_animation es ≡ false)
      → animation_of (es ++ one) ≡ select (is_animation e) (animation_from (read_animation 0 e.payload)) (animation_of es)
  unfolding animation_of
  loop-snoc [] h = refl
  loop-snoc (x ∷ es) h =
      let numbers : Extension → AnimationControl = λ y. animation_from (read_animation 0 y.payload) in
      earlier (is_animation x) (is_animation e) (has_animation es) h (numbers x) (animation_of (es ++ one)) (numbers e) (animation_of es) (loop-snoc es)

-- the entry at the end takes the place of the first zero entry
set-end : (es : List Entry) (x y : Entry) (l : List Entry) → set (es ++ (y ∷ l)) (length es) x ≡ es ++ (x ∷ l)
set-end [] x y l = refl
set-end (e ∷ es) x y l = ap (λ (m : List Entry). e ∷ m) (set-end es x y l)

pub pad-snoc : (es : List Entry) (x : Entry) → length es < max_entries → set (pad_entries es) (length es) x ≡ pad_entries (es ++ (x ∷ []))
pad-snoc es x h =
    let n : max_entries - length es ≡ suc (max_entries - (length es + 1)) = omega arith in
    rw (length-append, n) (set-end es x zero_entry (replicate (max_entries - (length es + 1)) zero_entry) ∙ sym (append_assoc es (x ∷ []) _))
