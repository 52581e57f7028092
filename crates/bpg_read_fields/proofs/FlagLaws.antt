-- n bits as flags, one after the other.
use mathlib.Core.Path.{◌≡◌, refl, ap, ◌∙◌}
use mathlib.Core.Bool.{Bool, true, false}
use mathlib.Core.List.{List, [], ◌∷◌}
use Prim.Native.Nat.{ℕ, suc, ◌+◌, ◌≤◌}
use native.Mathlib.Nat.{add-zero}
use native.Mathlib.Omega.{arith}
use lib.Dec.{eqb}
use lib.ListN.{length, drop}
use borrow.Author.Tests.{le-leb, lt-leb}
use Rattle.bpg_codec.specs.Outcome.{Outcome, ok, ◌>>=◌, located}
use Rattle.bpg_codec.specs.Codec.{decode_at, at_item}
use Rattle.bpg_codec.specs.Bits.{Bit, number}
use Rattle.bpg_codec.specs.Parts.{sequence, mapped, fixed}
use Rattle.bpg_codec.proofs.Outcome.{bind_assoc}
use Rattle.bpg_codec.proofs.Lists.{either_way}
use Rattle.bpg_codec.proofs.Positions.{mapped_at, sequence-at}
use Rattle.bpg_bits.specs.BitNumbers.{unsigned}
use Rattle.bpg_format.specs.FileCodec.{one_bit}
use Rattle.bpg_read_fields.proofs.AllFieldLaws.{flag-advances, flag_at}

one-flag : (b : Bool) → eqb (number (b ∷ [])) 1 ≡ b
one-flag true = refl
one-flag false = refl

fixed-cons : (n i p : ℕ) (l : List Bool) → (fixed Bit (suc n) 15 at_item).decode i p l
    ≡ (mapped (sequence one_bit λ _. fixed Bit n 15 at_item) (λ x. x.0 ∷ x.1) (λ y. (false, y))).decode i p l
unfolding fixed mapped sequence
fixed-cons n i p [] = rw (lt-leb (suc n) 0 (omega arith))
fixed-cons n i p (b ∷ l) =
    let one : 1 ≤ suc (length l) = omega arith in
    let q : p + suc n ≡ p + 1 + n = omega arith in
    either_way n (length l)
    (λ h. rw (le-leb 1 (suc (length l)) one, le-leb (suc n) (suc (length l)) (omega arith), le-leb n (length l) h, one-flag b, q))
    (λ h. rw (le-leb 1 (suc (length l)) one, lt-leb (suc n) (suc (length l)) (omega arith), lt-leb n (length l) h))

module _ (bits : List Bool) where
  abbrev pub flags : (n p : ℕ) → Outcome (List Bool × ℕ)
  flags n p = decode_at bits (fixed Bit n 15 at_item) 0 p

  one-and-more : (n p : ℕ) → flags (suc n) p ≡ (decode_at bits one_bit 0 p >>= λ x. flags n x.1 >>= λ y. ok (x.0 ∷ y.0, y.1))
  one-and-more n p =
      ap located (fixed-cons n 0 p (drop p bits)) ∙ mapped_at bits (sequence one_bit λ _. fixed Bit n 15 at_item) (λ x. x.0 ∷ x.1) (λ y. (false, y)) 0 p
      ∙ rw (sequence-at bits flag-advances (λ _. fixed Bit n 15 at_item) 0 p) (simp bind_assoc)

  module _ {B : Type 0} (k : List Bool × ℕ → Outcome B) where
    then-more : (n p : ℕ) → (flags (suc n) p >>= k) ≡ (decode_at bits one_bit 0 p >>= λ x. flags n x.1 >>= λ y. k (x.0 ∷ y.0, y.1))
    then-more n p = rw (one-and-more n p) (simp bind_assoc)

    pub flags-cons : (n p : ℕ) → (flags (suc n) p >>= k) ≡ (decode_at bits (unsigned 1) 0 p >>= λ x. flags n x.1 >>= λ y. k (eqb x.0 1 ∷ y.0, y.1))
    flags-cons n p = then-more n p ∙ flag_at bits p (λ x. flags n x.1 >>= λ y. k (x.0 ∷ y.0, y.1))

    pub flags-none : (p : ℕ) → (flags 0 p >>= k) ≡ k ([], p)
    unfolding fixed
    flags-none p = rw (le-leb 0 (length (drop p bits)) (omega arith), add-zero)
