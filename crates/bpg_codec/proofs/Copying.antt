-- Copying a slice over another of the same length, element by element, and writing it into a buffer through a lent part: laws over the type
-- of the elements, for each width that is copied.
use mathlib.Core.Path.{◌≡◌, refl, sym, ◌∙◌}
use mathlib.Core.List.{List, ◌++◌}
use Prim.Native.Nat.{ℕ, ◌+◌, ◌-◌, ◌≤◌, ◌<◌}
use native.Mathlib.Nat.{add-sub_cancel_left}
use native.Mathlib.Numerals.{add-one}
use native.Mathlib.Omega.{arith}
use lib.ListN.{length, take, drop, get_or, set, length-set}
use lib.Seq.{take_all, take-suc, take-suc-set, drop-drop}
use Rattle.bpg_codec.specs.Buffer.{written, written_end}
use Rattle.bpg_codec.proofs.Buffer.{stored}

-- the loop's invariant: the first i elements are those of the source
pub record Copied {A : Type 0} (from to : List A) (i : ℕ) : Type 0 where
  pub within : i ≤ length from
  pub as_long : length to ≡ length from
  pub first : take i to ≡ take i from

module _ {A : Type 0} (from to : List A) where
  pub copy-begins : length to ≡ length from → Copied from to 0
  copy-begins e = record { within = omega arith; as_long = e; first = refl }

  pub copy-next : (i : ℕ) (d : A) → Copied from to i → i < length from → Copied from (set to i (get_or from i d)) (i + 1)
  copy-next i d c h =
      record {
        within = omega arith;
        as_long = length-set to i (get_or from i d) ∙ c.as_long;
        first = rw (add-one, take-suc-set to i (get_or from i d) (omega arith), take-suc from i d, c.first);
      }

  pub copy-ends : (i : ℕ) → Copied from to i → length from ≤ i → to ≡ from
  copy-ends i c h = sym (take_all i to (omega arith)) ∙ c.first ∙ take_all i from h

-- the part of a buffer that was lent comes back with l in it
pub part-written : {A : Type 0} (out part l : List A) (at : ℕ) → part ≡ l → at + length l ≤ length out
    → (take at out ++ (part ++ drop (at + length l - at) (drop at out)) ≡ written out at l) × (at + length l ≡ written_end out at l)
part-written out part l at e h = rw (e, add-sub_cancel_left, drop-drop) (stored out at l h)
