-- Request 8/13 holds.
use mathlib.Core.Path.{◌≡◌, refl, sym, ap, ◌∙◌}
use mathlib.Core.Bool.{Bool, false}
use mathlib.Core.List.{List}
use Prim.Native.Nat.{ℕ, min, ◌+◌, ◌-◌, ◌/◌, ◌≤◌, ◌<◌, ◌^◌}
use native.Mathlib.Nat.{add-zero}
use native.Mathlib.Omega.{arith}
use lib.ListN.{length, take, drop, get_or, length-take, length-drop}
use lib.Seq.{get_or-take, get_or-drop, length-take-le}
use Rattle.bpg_codec.specs.Codec.{decode_at}
use Rattle.bpg_codec.specs.Lawful.{All, Byte}
use Rattle.bpg_codec.specs.Bits.{number, bit_at}
use Rattle.bpg_codec.proofs.Lists.{either_way}
use Rattle.bpg_codec.proofs.Tokens.{byte_at}
use Rattle.bpg_codec.proofs.Bits.{get_d_bits, bits-number, length-unpack}
use Rattle.std.specs.Prelude.{Some, None}
use Rattle.bpg_bits.specs.BitNumbers.{region_bits, unsigned}
use Rattle.bpg_bits.specs.Answers.{bit_number, bit_answer, short_answer}
use Rattle.bpg_bits.specs.Requirements.{ShortField, OtherWidths, TwoBytes}
use Rattle.bpg_bits.proofs.BitNumberLaws.{unsigned-missing, unsigned-found}
use Rattle.bpg_bits.proofs.ShortLaws.{short-number}

module _ (region : List ℕ) (p : ℕ) where
  abbrev l : List Bool
  l = region_bits region

  -- a field of so many bits, as u(n)
  as-unsigned : (n w : ℕ) → min n 8 ≡ w → bit_answer (decode_at l (unsigned w) 0 p) ≡ short_answer region p n
  as-unsigned n w e = ap (λ (k : ℕ). bit_answer (decode_at l (unsigned k) 0 p)) (sym e)

  found : (n : ℕ) → n ≤ 8 → n ≤ length l - p → short_answer region p n ≡ Some (bit_number (number (take n (drop p l))) (p + n))
  found n h k = sym (unsigned-found l p n _ k refl ∙ as-unsigned n n (omega arith))

  missing : (n w : ℕ) → min n 8 ≡ w → length l - p < w → short_answer region p n ≡ None
  missing n w e h = sym (unsigned-missing l p w h ∙ as-unsigned n w e)

  high : (n j : ℕ) → p + n ≤ length l → j < n → bit_at (number (take n (drop p l))) (n - 1 - j) ≡ get_or l (p + j) false
  high n j h k =
      let enough : n ≤ length (drop p l) = rw length-drop (omega arith) in
      sym (get_d_bits n (number (take n (drop p l))) j k)
      ∙ ap (λ (x : List Bool). get_or x j false) (bits-number n (take n (drop p l)) (length-take-le n (drop p l) enough))
      ∙ get_or-take n (drop p l) j false k ∙ get_or-drop p l j false

pub short-field : ShortField
short-field =
    record {
      next-bits = λ r p n h k. found r p n h (omega arith);
      high-first = high;
      fewer = λ r p n some few h. missing r p n n (omega arith) (omega arith);
    }

pub other-widths : OtherWidths
other-widths =
    record {
      none = λ r p. found r p 0 (omega arith) (omega arith) ∙ ap (λ (q : ℕ). Some (bit_number 0 q)) (add-zero p);
      more = λ r p n h. sym (as-unsigned r p n 8 (omega arith));
    }

-- ---- two bytes decide

module _ (a b : List ℕ) (p n : ℕ) (ba : All Byte a) (bb : All Byte b) (same : length a ≡ length b) (first : get_or a (p / 8) 0 ≡ get_or b (p / 8) 0)
    (second : get_or a (p / 8 + 1) 0 ≡ get_or b (p / 8 + 1) 0) where
  abbrev w : ℕ
  w = min n 8

  as_long : length (region_bits a) ≡ length (region_bits b)
  as_long = rw (length-unpack (take (2 ^ 60) a), length-unpack (take (2 ^ 60) b), length-take (2 ^ 60) a, length-take (2 ^ 60) b, same)

  one_number : w ≤ length (region_bits a) - p → number (take w (drop p (region_bits a))) ≡ number (take w (drop p (region_bits b)))
  one_number h =
      sym (short-number a p w (omega arith) h _ _ refl refl (byte_at a (p / 8 + 1) ba))
      ∙ short-number b p w (omega arith) (omega (arith, as_long)) _ _ first second (rw second (byte_at b (p / 8 + 1) bb))

  decided : short_answer a p n ≡ short_answer b p n
  decided =
      either_way w (length (region_bits a) - p)
      (λ h. sym (unsigned-found (region_bits a) p w _ h refl)
      ∙ ap (λ (v : ℕ). Some (bit_number v (p + w))) (one_number h)
      ∙ unsigned-found (region_bits b) p w _ (omega (arith, as_long)) refl)
      (λ h. sym (unsigned-missing (region_bits a) p w h) ∙ unsigned-missing (region_bits b) p w (omega (arith, as_long)))

pub two_bytes : TwoBytes
two_bytes = record { decide = decided }
