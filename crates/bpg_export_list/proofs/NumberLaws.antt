-- A record's list in parts.
use mathlib.Core.Path.{◌≡◌, refl, sym, ap, ap₂, ◌∙◌}
use mathlib.Core.Bool.{Bool, true, false}
use mathlib.Core.List.{List, [], ◌∷◌, ◌++◌, map}
use Prim.Native.Nat.{ℕ, ◌+◌, ◌*◌, ◌≤◌}
use native.Mathlib.Omega.{arith}
use lib.ListN.{length, get_or, length-append, length-map}
use mir.Val.{bool_byte}
use Rattle.bpg_codec.specs.Bits.{bit}
use Rattle.bpg_codec.specs.Buffer.{written}
use Rattle.bpg_codec.proofs.Lists.{by_length}
use Rattle.bpg_codec.proofs.Buffer.{length-splice, stored, written-written}
use Rattle.bpg_format.specs.declared.record.Entry.{Entry}
use Rattle.bpg_format.specs.declared.record.Header.{Header}
use Rattle.bpg_export_list.specs.Numbers.{entries_numbers}
use Rattle.bpg_export_list.specs.Numbers.{header_numbers}

-- a flag as a number
pub flag-number : (t : Bool) → bool_byte t ≡ bit t
flag-number true = refl
flag-number false = refl

-- ---- the nine range flags

-- each element as the code reads it
abbrev nine_of : List Bool → List ℕ
nine_of l =
    bool_byte (get_or l 0 false) ∷ bool_byte (get_or l 1 false) ∷ bool_byte (get_or l 2 false) ∷ bool_byte (get_or l 3 false) ∷ bool_byte (get_or l 4 false)
    ∷ bool_byte (get_or l 5 false) ∷ bool_byte (get_or l 6 false) ∷ bool_byte (get_or l 7 false) ∷ bool_byte (get_or l 8 false) ∷ []

pub nine-flags : (l : List Bool) → length l ≡ 9 → nine_of l ≡ map bit l
nine-flags = by_length 9 (λ l. nine_of l ≡ map bit l) (λ a b c d e f g h i. simp flag-number)

pub header-length : (h : Header) → length h.range_flags ≡ 9 → length (header_numbers h) ≡ 25
unfolding header_numbers
header-length h n = omega (arith, length-map h.range_flags bit)

-- ---- the entries

pub entries-append : (a b : List Entry) → entries_numbers (a ++ b) ≡ entries_numbers a ++ entries_numbers b
unfolding entries_numbers
entries-append [] b = refl
entries-append (e ∷ a) b = ap (λ (l : List ℕ). e.tag ∷ e.payload.start ∷ e.payload.length ∷ e.tag_offset ∷ l) (entries-append a b)

pub entries-length : (es : List Entry) → length (entries_numbers es) ≡ 4 * length es
unfolding entries_numbers
entries-length [] = refl
entries-length (e ∷ es) = omega (arith, entries-length es)

-- ---- parts written one after the other are one

-- o is `out` with the numbers l over it, from `at` to n
pub record Filled (out : List ℕ) (at n : ℕ) (l o : List ℕ) : Type 0 where
  pub is : o ≡ written out at l
  pub ends : at + length l ≡ n

-- and then with j more
pub filled_next : {out : List ℕ} {at n j : ℕ} {l o p : List ℕ} → Filled out at n l o → (m : List ℕ) → (p ≡ written o n m) × (length m ≡ j) → n + j ≤ length out
    → Filled out at (n + j) (l ++ m) p
filled_next {out} {at} {l = l} f m w h =
    record {
      is = w.0 ∙ ap₂ (λ (x : List ℕ) (k : ℕ). written x k m) f.is (sym f.ends) ∙ written-written out at l m (omega (arith, f.ends, w.1));
      ends = omega (arith, length-append l m, f.ends, w.1);
    }

module _ (out : List ℕ) where
  pub written-length : (at : ℕ) (l : List ℕ) → at + length l ≤ length out → length (written out at l) ≡ length out
  written-length at l h = ap length (sym (stored out at l h).0) ∙ length-splice out at l h
