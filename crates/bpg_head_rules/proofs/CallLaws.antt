-- Heads compared field by field, and what the call answers.
use mathlib.Core.Path.{◌≡◌, refl, sym, ap, ◌∙◌, subst}
use mathlib.Core.Bool.{Bool, true, false}
use mathlib.Core.List.{List, [], ◌∷◌, ◌++◌}
use Prim.Native.Nat.{ℕ}
use lib.Dec.{T, eqb}
use lib.Pointwise.{pointwise}
use native.Mathlib.Decide.{ℕ_discrete}
use borrow.Author.Tests.{eq-eqb, ne_eqb}
use lib.ListN.{take, get_or}
use Rattle.bpg_codec.specs.Lists.{same}
use Rattle.bpg_codec.specs.Bits.{bit}
use Rattle.bpg_codec.specs.Outcome.{ok, error}
use Rattle.bpg_codec.proofs.Select.{is_true}
use Rattle.bpg_codec.proofs.Lists.{same-equal, same_refl}
use Rattle.bpg_format.specs.Read.{read_head}
use Rattle.bpg_read_head.specs.declared.head.Head.{Head as PlacedHead}
use Rattle.bpg_head_rules.specs.declared.CodedHead.{CodedHead}
use Rattle.bpg_read_head.specs.Heads.{head_fields}
use Rattle.bpg_head_rules.specs.Calls.{fields_of, refused_head_reading, head_file, head_numbers, is_head}

-- ---- a head is its numbers

flag-back : (t : Bool) → eqb (bit t) 1 ≡ t
flag-back true = refl
flag-back false = refl

abbrev from_numbers : List ℕ → CodedHead
from_numbers l =
    record {
      flags =
          record {
            pixel_format = get_or l 0 0;
            alpha1_flag = eqb (get_or l 1 0) 1;
            bit_depth_minus_8 = get_or l 2 0;
            color_space = get_or l 3 0;
            extension_present_flag = eqb (get_or l 4 0) 1;
            alpha2_flag = eqb (get_or l 5 0) 1;
            limited_range_flag = eqb (get_or l 6 0) 1;
            animation_flag = eqb (get_or l 7 0) 1;
          };
      picture_width = get_or l 8 0;
      picture_height = get_or l 9 0;
      data_length = get_or l 10 0;
      extension_length = get_or l 11 0;
    }

numbers-back : (h : CodedHead) → from_numbers (head_numbers h) ≡ h
numbers-back h = simp flag-back

pub numbers-means : (a b : CodedHead) → head_numbers a ≡ head_numbers b → a ≡ b
numbers-means a b e = sym (numbers-back a) ∙ ap from_numbers e ∙ numbers-back b

-- its own numbers are its own, whatever stands after them
pub own-numbers : (h : CodedHead) (l : List ℕ) → is_head (head_numbers h ++ l) h ≡ true
unfolding is_head
own-numbers h l = is_true _ (same_refl (head_numbers h))

pub own-head : (h : CodedHead) → is_head (head_numbers h) h ≡ true
unfolding is_head
own-head h = is_true _ (same_refl (head_numbers h))

-- a list that begins with its numbers is its own, whatever stands after them, and no other is
pub is-head-if : (l : List ℕ) (h : CodedHead) → take 12 l ≡ head_numbers h → is_head l h ≡ true
unfolding is_head
is-head-if l h e = is_true _ (subst (λ (x : List ℕ). T (same x (head_numbers h))) (sym e) (same_refl (head_numbers h)))

pub is-head-means : (l : List ℕ) (h : CodedHead) → is_head l h ≡ true → take 12 l ≡ head_numbers h
unfolding is_head
is-head-means l h t = same-equal (take 12 l) (head_numbers h) (subst T (sym t) tt)

pub same-means : (a b : CodedHead) → is_head (head_numbers a) b ≡ true → a ≡ b
same-means a b t = sym (numbers-back a) ∙ ap from_numbers (is-head-means (head_numbers a) b t) ∙ numbers-back b

-- ---- a list compared with its numbers, pair by pair

turned : (a b : ℕ) → eqb a b ≡ eqb b a
turned a b =
    elim (ℕ_discrete a b) [
      | yes e ↦ eq-eqb a b e ∙ sym (eq-eqb b a (sym e))
      | no n ↦ ne_eqb a b n ∙ sym (ne_eqb b a (λ e. n (sym e)))
    ]

pairs-same : (l m : List ℕ) → pointwise eqb l m ≡ same m l
pairs-same [] [] = refl
pairs-same [] (y ∷ m) = refl
pairs-same (x ∷ l) [] = refl
pairs-same (x ∷ l) (y ∷ m) = rw (turned x y, pairs-same l m)

pub pairs-head : (l : List ℕ) (h : CodedHead) → pointwise eqb (head_numbers h) (take 12 l) ≡ is_head l h
unfolding is_head
pairs-head l h = pairs-same (head_numbers h) (take 12 l)

-- ---- a head as the code holds it, without its places, is the call's answer

module _ (f : List ℕ) where
  pub head-read : (h : PlacedHead) → ok (head_fields h) ≡ read_head f → record { status = 0; offset = 0; head = fields_of h } ≡ head_file f
  unfolding head_file
  head-read h e = rw (← e)

  pub head-refused : (s o : ℕ) → error s o ≡ read_head f → refused_head_reading s o ≡ head_file f
  unfolding head_file
  head-refused s o e = rw (← e)
