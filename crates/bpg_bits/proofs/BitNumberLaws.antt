-- The laws of u(n) and ue(v), over the width: the readers' equations, the round trip, that a number has one form only, and how
-- long it is.
use mathlib.Core.Path.{◌≡◌, refl, sym, ap, ◌∙◌, subst}
use mathlib.Core.Bool.{Bool, true, false}
use mathlib.Core.List.{List, [], ◌∷◌, ◌++◌, append_assoc}
use Prim.Native.Nat.{ℕ, zero, suc, ◌+◌, ◌-◌, ◌*◌, ◌/◌, ◌%◌, ◌^◌, ◌≤◌, ◌<◌}
use native.Mathlib.Nat.{add-zero, zero-add, div-eq_of_lt}
use native.Mathlib.Omega.{arith}
use lib.Count.{count_leading_zeros, leading_top}
use lib.Dec.{leb, leb→le}
use lib.ListN.{length, take, drop, get_or, length-append, length-replicate, length-take, length-drop, take-append-drop}
use lib.Pow.{pow_pos, pow_mono, high, low as low'}
use lib.Seq.{get_or-take, length-take-le, take_at, drop_at}
use borrow.Author.Tests.{lt-ltb, le-ltb, le-leb, lt-leb}
use Rattle.bpg_codec.specs.Outcome.{Outcome, ok, error, ◌>>=◌, Decoded, decoded}
use Rattle.bpg_codec.specs.Codec.{decode_at}
use Rattle.bpg_codec.specs.Lawful.{Found, Lawful}
use Rattle.bpg_codec.specs.Bits.{Bit, number, bits, zeros, unpack}
use Rattle.bpg_codec.proofs.Select.{select-true, select-false}
use Rattle.bpg_codec.proofs.Outcome.{error-not-ok, ok-injective, unbind, unguard}
use Rattle.bpg_codec.proofs.Lists.{either_way}
use Rattle.bpg_codec.proofs.Tokens.{all-bits}
use Rattle.bpg_codec.proofs.Bits.{length-bits, number-bits, number_small, bits-number, bits-append, bits-mod, bits-zero, unpack-take, length-unpack}
use Rattle.std.specs.Prelude.{Some, None}
use Rattle.bpg_bits.specs.Answers.{bit_number, bit_answer}
use Rattle.bpg_bits.specs.BitNumbers.{region_bits, unsigned_decode, unsigned, prefix_decode, prefix_zeros, exp_golomb_bits, exp_golomb_decode, exp_golomb}

-- ---- u(n)

module _ (n : ℕ) where
  unsigned-decodes : (v : ℕ) → v < 2 ^ n → (i p : ℕ) (r : List Bool) → unsigned_decode n i p (bits n v ++ r) ≡ ok (decoded v (p + length (bits n v)) r)
  unsigned-decodes v h i p r =
      let k : n ≤ length (bits n v ++ r) = omega (arith, length-append (bits n v) r, length-bits n v) in
      rw (le-leb _ _ k, take_at (bits n v) r n (length-bits n v), drop_at (bits n v) r n (length-bits n v), number-bits n v h, length-bits)

  pub unsigned-lawful : Lawful Bit (unsigned n)
  unsigned-lawful =
      record {
        tokens = λ v h. all-bits (bits n v);
        decodes = unsigned-decodes;
        encodes = λ i p l h x e.
            unguard (leb n (length l)) 15 i _ e λ t e1.
            let k = length-take-le n l (leb→le n (length l) t) in
            subst (Found (unsigned n) p l) (ok-injective e1)
            (number_small n (take n l) k, rw (bits-number n (take n l) k, take-append-drop), rw length-bits);
      }

-- ---- what reading u(n) answers

module _ (l : List Bool) (at n : ℕ) where
  pub unsigned-missing : length l - at < n → None ≡ bit_answer (decode_at l (unsigned n) 0 at)
  unsigned-missing h = rw (lt-leb n (length (drop at l)) (rw length-drop h))

  pub unsigned-found : (v : ℕ) → n ≤ length l - at → v ≡ number (take n (drop at l)) → Some (bit_number v (at + n)) ≡ bit_answer (decode_at l (unsigned n) 0 at)
  unsigned-found v h e = rw (le-leb n (length (drop at l)) (rw length-drop h), e)

-- ---- the bits of a region

pub region-bit : (l : List ℕ) (k : ℕ) → k < length (region_bits l) → get_or (unpack l) k false ≡ get_or (region_bits l) k false
region-bit l k h =
    sym (ap (λ (b : List Bool). get_or b k false) (unpack-take (2 ^ 60) l)
    ∙ get_or-take (8 * 2 ^ 60) (unpack l) k false (omega (arith, length-unpack (take (2 ^ 60) l), length-take (2 ^ 60) l)))

-- they are bits of its bytes
pub region-within : (l : List ℕ) → length (region_bits l) ≤ 8 * length l
region-within l = omega (arith, length-unpack (take (2 ^ 60) l), length-take (2 ^ 60) l)

-- ---- the prefix of ue(v), bit by bit

module _ (i z p : ℕ) where
  pub prefix-end : prefix_decode i z p [] ≡ error 15 i
  unfolding prefix_decode
  prefix-end = refl

  pub prefix-one : (l : List Bool) → prefix_decode i z p (true ∷ l) ≡ ok (decoded z (p + 1) l)
  unfolding prefix_decode
  prefix-one l = refl

  pub prefix-zero : (l : List Bool) → z < 31 → prefix_decode i z p (false ∷ l) ≡ prefix_decode i (z + 1) (p + 1) l
  unfolding prefix_decode
  prefix-zero l h = rw (lt-ltb _ _ h)

  pub prefix-long : (l : List Bool) → 31 ≤ z → prefix_decode i z p (false ∷ l) ≡ error 15 i
  unfolding prefix_decode
  prefix-long l h = rw (le-ltb _ _ h)

prefix-decodes : (m z i p : ℕ) (r : List Bool) → z + m ≤ 31 → prefix_decode i z p (zeros m ++ (true ∷ r)) ≡ ok (decoded (z + m) (p + suc m) r)
prefix-decodes zero z i p r h = prefix-one i z p r ∙ rw add-zero
prefix-decodes (suc m) z i p r h =
    let a : z + 1 + m ≡ z + suc m = omega arith in
    let b : p + 1 + suc m ≡ p + suc (suc m) = omega arith in
    prefix-zero i z p (zeros m ++ (true ∷ r)) (omega arith) ∙ prefix-decodes m (z + 1) i (p + 1) r (omega arith) ∙ rw (a, b)

abbrev Prefix : (z p : ℕ) → List Bool → Decoded Bool ℕ → Type 0
Prefix z p l x = (z ≤ x.value) × (x.value ≤ 31) × (l ≡ zeros (x.value - z) ++ (true ∷ x.rest)) × (x.next ≡ p + suc (x.value - z))

prefix-encodes : (l : List Bool) (z i p : ℕ) → z ≤ 31 → (x : Decoded Bool ℕ) → prefix_decode i z p l ≡ ok x → Prefix z p l x
prefix-encodes [] z i p h x e = absurd (error-not-ok (sym (prefix-end i z p) ∙ e))
prefix-encodes (true ∷ l) z i p h x e =
    let z0 : z - z ≡ 0 = omega arith in
    subst (Prefix z p (true ∷ l)) (ok-injective (sym (prefix-one i z p l) ∙ e)) (omega arith, h, rw z0, rw z0)
prefix-encodes (false ∷ l) z i p h x e =
    either_way 31 z (λ k. absurd (error-not-ok (sym (prefix-long i z p l k) ∙ e)))
    (λ k. more (prefix-encodes l (z + 1) i (p + 1) (omega arith) x (sym (prefix-zero i z p l k) ∙ e)))
  where
    more : Prefix (z + 1) (p + 1) l x → Prefix z p (false ∷ l) x
    more ih =
        let s : x.value - z ≡ suc (x.value - (z + 1)) = omega arith in
        (omega arith, ih.1, rw s (ap (λ (y : List Bool). false ∷ y) ih.2), rw s (omega (arith, ih.3)))

-- ---- z, the highest power of two in v + 1

pub record Top (v z : ℕ) : Type 0 where
  pub most : z ≤ 31
  pub low : 2 ^ z ≤ v + 1
  pub high : v + 1 < 2 * 2 ^ z

pub top : (v : ℕ) → v < 2 ^ 32 - 1 → Top v (prefix_zeros v) × (count_leading_zeros 32 (v + 1) ≤ 31)
top v h =
    let t = leading_top 32 (v + 1) (omega arith) (omega arith) in
    let e : prefix_zeros v ≡ t.0 = omega arith in
    (rw e (record { most = omega arith; low = t.2; high = omega (arith, t.3) }), omega arith)

one-top : (v y z : ℕ) → Top v y → Top v z → y ≤ z
one-top v y z s t = either_way y z (λ h. h) (λ h. absurd (omega (arith, pow_mono {i = suc z} {j = y} h)))

pub top_unique : (v y z : ℕ) → Top v y → Top v z → y ≡ z
top_unique v y z s t = omega (arith, one-top v y z s t, one-top v z y t s)

-- ---- ue(v)

pub exp_golomb-bits : (v : ℕ) → v < 2 ^ 32 - 1 → exp_golomb_bits v ≡ zeros (prefix_zeros v) ++ (true ∷ bits (prefix_zeros v) (v + 1 - 2 ^ prefix_zeros v))
unfolding exp_golomb_bits
exp_golomb-bits v h = select-true _ _ (lt-ltb _ _ h)

pub exp_golomb-none : (v : ℕ) → 2 ^ 32 - 1 ≤ v → exp_golomb_bits v ≡ []
unfolding exp_golomb_bits
exp_golomb-none v h = select-false _ _ (le-ltb _ _ h)

pub exp_golomb-size : (v : ℕ) → v < 2 ^ 32 - 1 → length (exp_golomb_bits v) ≡ 2 * prefix_zeros v + 1
exp_golomb-size v h = rw (exp_golomb-bits v h, length-append, length-replicate, length-bits) (omega arith)

leading-one : (z w low : ℕ) → w / 2 ^ z ≡ 1 → w % 2 ^ z ≡ low → bits (suc z) w ≡ true ∷ bits z low
unfolding bits
leading-one z w low e m = rw (e, ← m, bits-mod z w)

-- v + 1 in 2z + 1 bits
pub exp_golomb-one-field : (v : ℕ) → v < 2 ^ 32 - 1 → exp_golomb_bits v ≡ bits (2 * prefix_zeros v + 1) (v + 1)
exp_golomb-one-field v h =
    let z = prefix_zeros v in
    let t = (top v h).0 in
    let n : 2 * prefix_zeros v + 1 ≡ prefix_zeros v + suc (prefix_zeros v) = omega arith in
    let low : ℕ = v + 1 - 2 ^ prefix_zeros v in
    let s : 1 * 2 ^ prefix_zeros v + (v + 1 - 2 ^ prefix_zeros v) ≡ v + 1 = omega (arith, t.low) in
    let q : (v + 1) / 2 ^ suc (prefix_zeros v) ≡ 0 = div-eq_of_lt (omega (arith, t.high)) in
    let one : (v + 1) / 2 ^ prefix_zeros v ≡ 1 = subst (λ (n : ℕ). n / 2 ^ prefix_zeros v ≡ 1) s (high 1 z (omega (arith, t.high, t.low))) in
    let rem : (v + 1) % 2 ^ prefix_zeros v ≡ v + 1 - 2 ^ prefix_zeros v = subst (λ (n : ℕ). n % 2 ^ prefix_zeros v ≡ v + 1 - 2 ^ prefix_zeros v) s (low' 1 z (omega (arith, t.high, t.low))) in
    exp_golomb-bits v h ∙ sym (rw (n, bits-append z (suc z) (v + 1), q, bits-zero z) (ap (λ (l : List Bool). zeros z ++ l) (leading-one z (v + 1) low one rem)))

exp_golomb-decodes : (v : ℕ) → v < 2 ^ 32 - 1 → (i p : ℕ) (r : List Bool) → exp_golomb_decode i p (exp_golomb_bits v ++ r) ≡ ok (decoded v (p + length (exp_golomb_bits v)) r)
exp_golomb-decodes v h i p r =
    let z = prefix_zeros v in
    let t = (top v h).0 in
    let x : ℕ = v + 1 - 2 ^ prefix_zeros v in
    let s : 2 ^ prefix_zeros v - 1 + (v + 1 - 2 ^ prefix_zeros v) ≡ v = omega (arith, t.low, pow_pos (prefix_zeros v)) in
    let n : p + suc (prefix_zeros v) + length (bits (prefix_zeros v) (v + 1 - 2 ^ prefix_zeros v)) ≡ p + (2 * prefix_zeros v + 1) = rw length-bits (omega arith) in
    rw (exp_golomb-size v h, exp_golomb-bits v h, append_assoc, prefix-decodes z 0 i p (bits z x ++ r) (omega (arith, t.most)), zero-add)
    (ap (λ (o : Outcome (Decoded Bool ℕ)). o >>= λ y. ok (decoded (2 ^ z - 1 + y.value) y.next y.rest)) (unsigned-decodes z x (omega (arith, t.high)) i (p + suc z) r)
    ∙ rw (s, n))

-- what the prefix and the suffix make
value-top : (z x : ℕ) → z ≤ 31 → x < 2 ^ z → Top (2 ^ z - 1 + x) z
value-top z x h k = record { most = h; low = omega (arith, pow_pos z); high = omega (arith, pow_pos z) }

exp_golomb-found : (i p : ℕ) (l : List Bool) (x y : Decoded Bool ℕ) → prefix_decode i 0 p l ≡ ok x → unsigned_decode x.value i x.next x.rest ≡ ok y
    → Found exp_golomb p l (decoded (2 ^ x.value - 1 + y.value) y.next y.rest)
exp_golomb-found i p l x y e f =
    let z = x.value in
    let v : ℕ = 2 ^ x.value - 1 + y.value in
    let s = prefix-encodes l 0 i p (omega arith) x e in
    let t = (unsigned-lawful z).encodes i x.next x.rest (all-bits x.rest) y f in
    let valid : 2 ^ x.value - 1 + y.value < 2 ^ 32 - 1 = omega (arith, t.0, s.1, pow_mono {i = z} {j = 31} s.1, pow_pos z) in
    let same : prefix_zeros (2 ^ x.value - 1 + y.value) ≡ x.value = top_unique v _ z (top v valid).0 (value-top z y.value s.1 t.0) in
    let low : 2 ^ x.value - 1 + y.value + 1 - 2 ^ x.value ≡ y.value = omega (arith, pow_pos z) in
    let z0 : x.value - 0 ≡ x.value = omega arith in (
      valid,
      s.2 ∙ rw (z0, exp_golomb-bits v valid, same, low, append_assoc, ← t.1),
      rw (exp_golomb-size v valid, same) (omega (arith, t.2, s.3, length-bits x.value y.value)),
    )

pub exp_golomb-lawful : Lawful Bit exp_golomb
exp_golomb-lawful =
    record {
      tokens = λ v h. all-bits (exp_golomb_bits v);
      decodes = exp_golomb-decodes;
      encodes = λ i p l h z e.
          unbind (prefix_decode i 0 p l) _ e λ x e1 k1.
          unbind (unsigned_decode x.value i x.next x.rest) _ k1 λ y e2 k2.
          subst (Found exp_golomb p l) (ok-injective k2) (exp_golomb-found i p l x y e1 e2);
    }
