-- The laws of the bit buffer: bits appended to gathered bits are gathered with them, and its bytes are the bits with zero bits up to the byte.
--
use mathlib.Core.Path.{◌≡◌, refl, sym, ap, ap₂, ◌∙◌}
use mathlib.Core.Bool.{Bool}
use mathlib.Core.List.{List, [], ◌∷◌, ◌++◌}
use Prim.Native.Nat.{ℕ, zero, suc, min, ◌+◌, ◌-◌, ◌*◌, ◌/◌, ◌%◌, ◌^◌, ◌≤◌, ◌<◌}
use native.Mathlib.Nat.{zero-add, zero-mul, zero-mod, mod-eq_of_lt, mod-lt, mul-mod_left, add-zero}
use native.Mathlib.Omega.{arith}
use lib.Arith.{digits_lt}
use lib.Pow.{pow_pos, pow_mono, pow-add, mod-pow-add, shl-shr}
use lib.ListN.{length, take, length-append, length-replicate}
use borrow.Author.Tests.{le-leb, lt-leb}
use Rattle.std.specs.Int.{w64, to_be_bytes}
use Rattle.bpg_codec.specs.Lawful.{All, Byte}
use Rattle.bpg_codec.specs.Bits.{number, number_from, bits, zeros, unpack, bytes_for, padded}
use Rattle.bpg_codec.proofs.Select.{select-true, select-false}
use Rattle.bpg_codec.proofs.Lists.{either_way, take_past, take-replicate}
use Rattle.bpg_codec.proofs.Tokens.{all_take}
use Rattle.bpg_codec.proofs.Bits.{number_from-bits, number_from-append, number_small, bits-number, bits-append, bits-mod, unpack-take}
use Rattle.bpg_codec.proofs.Packed.{padded-unique, all_zero-zeros}
use Rattle.bpg_write_bits.specs.declared.BitBuffer.{BitBuffer}
use Rattle.bpg_write_bits.specs.BitBuffer.{empty, overfull, appended, gathered, buffer_bytes}

module _ (b : BitBuffer) (l : List Bool) where
  pub append-fits : b.len.0 + length l ≤ 64
      → appended b l ≡ record { bits = b.bits % 2 ^ (64 - length l) * 2 ^ length l + number l; len = record { 0 = b.len.0 + length l } }
  unfolding appended
  append-fits h = select-true _ _ (le-leb _ _ h)

  pub append-not : 64 < b.len.0 + length l → appended b l ≡ overfull
  unfolding appended
  append-not h = select-false _ _ (lt-leb _ _ h)

-- ---- bits in a buffer of their own

pub gathered-fits : (l : List Bool) → length l ≤ 64 → gathered l ≡ record { bits = number l; len = record { 0 = length l } }
gathered-fits l h =
    let n : 0 + length l ≤ 64 = omega arith in
    append-fits empty l n ∙ rw (zero-mod, zero-mul, zero-add, zero-add)

pub gathered-not : (l : List Bool) → 64 < length l → gathered l ≡ overfull
gathered-not l h = let n : 64 < 0 + length l = omega arith in append-not empty l n

-- whatever the bits
pub gathered-most : (l : List Bool) → (gathered l).len.0 ≤ 65
gathered-most l = either_way (length l) 64 (λ h. rw (gathered-fits l h) (omega arith)) (λ h. rw (gathered-not l h) (omega arith))

number_append : (l m : List Bool) → number (l ++ m) ≡ number l * 2 ^ length m + number m
number_append l m =
    let n : number m % 2 ^ length m ≡ number m = mod-eq_of_lt (number_small (length m) m refl) in
    number_from-append l m 0
    ∙ ap (number_from (number l)) (sym (bits-number (length m) m refl))
    ∙ number_from-bits (length m) (number m) (number l)
    ∙ rw n

pub gathered-append : (l m : List Bool) → appended (gathered l) m ≡ gathered (l ++ m)
gathered-append l m =
    either_way (length l) 64
    (λ h. either_way (length l + length m) 64 (both h) (λ k. ap (λ (b : BitBuffer). appended b m) (gathered-fits l h) ∙ append-not _ m k ∙ sym (gathered-not (l ++ m) (rw length-append k))))
    (λ h. let k : 64 < 65 + length m = omega arith in
    ap (λ (b : BitBuffer). appended b m) (gathered-not l h) ∙ append-not overfull m k ∙ sym (gathered-not (l ++ m) (rw length-append (omega arith))))
  where
    both : length l ≤ 64 → length l + length m ≤ 64 → appended (gathered l) m ≡ gathered (l ++ m)
    both h k =
        let s : number l < 2 ^ (64 - length m) = omega (arith, number_small (length l) l refl, pow_mono {i = length l} {j = 64 - length m} (omega arith)) in
        let e : number l % 2 ^ (64 - length m) ≡ number l = mod-eq_of_lt s in
        ap (λ (b : BitBuffer). appended b m) (gathered-fits l h)
        ∙ append-fits (record { bits = number l; len = record { 0 = length l } }) m k
        ∙ rw e
        (sym (gathered-fits (l ++ m) (rw length-append k) ∙ rw (number_append, length-append)))

-- ---- a shift that drops high bits

pub shifted : (v j k : ℕ) → (v * 2 ^ k) % 2 ^ (j + k) ≡ v % 2 ^ j * 2 ^ k
shifted v j k = mod-pow-add (v * 2 ^ k) j k ∙ rw (shl-shr, mul-mod_left, add-zero)

-- what is below the shift finds place
pub shifted_fits : (v j k low : ℕ) → low < 2 ^ k → v % 2 ^ j * 2 ^ k + low < 2 ^ (j + k)
shifted_fits v j k low h = rw pow-add (digits_lt (mod-lt v (pow_pos j)) h)

-- ---- the bytes of a buffer

-- the n low bytes of v, the highest first
unfoldable pub big_endian : (n v : ℕ) → List ℕ
big_endian zero v = []
big_endian (suc n) v = v / 2 ^ (8 * n) % 256 ∷ big_endian n v

-- std's word for eight
pub be-bytes : (v : ℕ) → to_be_bytes w64 v ≡ big_endian 8 v
unfolding big_endian
be-bytes v = let e : v / 1 ≡ v = omega arith in rw e refl

pub unpack-big_endian : (n v : ℕ) → unpack (big_endian n v) ≡ bits (8 * n) v
unfolding big_endian unpack bits
unpack-big_endian zero v = refl
unpack-big_endian (suc n) v =
    let e : 8 * suc n ≡ 8 + 8 * n = omega arith in
    ap₂ ◌++◌ (bits-mod 8 (v / 2 ^ (8 * n))) (unpack-big_endian n v) ∙ sym (ap (λ (k : ℕ). bits k v) e ∙ bits-append 8 (8 * n) v)

pub length-big_endian : (n v : ℕ) → length (big_endian n v) ≡ n
unfolding big_endian
length-big_endian zero v = refl
length-big_endian (suc n) v = ap suc (length-big_endian n v)

pub bytes-big_endian : (n v : ℕ) → All Byte (big_endian n v)
unfolding big_endian
bytes-big_endian zero v = tt
bytes-big_endian (suc n) v = (omega arith, bytes-big_endian n v)

-- the first bytes of eight, whose bits are these and then zeros
pub first-bytes : (l : List Bool) (v : ℕ) → length l ≤ 64 → bits 64 v ≡ l ++ zeros (64 - length l) → take (bytes_for (length l)) (big_endian 8 v) ≡ padded l
first-bytes l v h e =
    let n = bytes_for (length l) in
    let z : ℕ = 8 * bytes_for (length l) - length l in
    let k : 8 * bytes_for (length l) ≡ length l + (8 * bytes_for (length l) - length l) = omega arith in
    let s : unpack (take (bytes_for (length l)) (big_endian 8 v)) ≡ l ++ zeros (8 * bytes_for (length l) - length l) =
    unpack-take n (big_endian 8 v) ∙ ap (λ (k : ℕ). take k (unpack (big_endian 8 v))) k
    ∙ rw (unpack-big_endian 8 v, e, take_past l (zeros (64 - length l)) (length l) z refl, take-replicate z (64 - length l) _ (omega arith)) in
    padded-unique (take n (big_endian 8 v)) (all_take Byte n (big_endian 8 v) (bytes-big_endian 8 v)) l (zeros z) s (rw length-replicate (omega arith)) (all_zero-zeros z)

-- the bytes of gathered bits
pub gathered-bytes : (l : List Bool) → length l ≤ 64 → buffer_bytes (gathered l) ≡ padded l
gathered-bytes l h =
    let n : min (length l) 64 ≡ length l = omega arith in
    ap buffer_bytes (gathered-fits l h) ∙ ap padded (ap (λ (k : ℕ). bits k (number l)) n ∙ bits-number (length l) l refl)
