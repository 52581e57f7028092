-- A field that the next bits hold whole.
use mathlib.Core.Path.{◌≡◌, sym, ap, ◌∙◌}
use mathlib.Core.Bool.{Bool}
use mathlib.Core.List.{List, ◌++◌}
use Prim.Native.Nat.{ℕ, suc, ◌+◌, ◌-◌, ◌*◌, ◌/◌, ◌^◌, ◌≤◌, ◌<◌}
use native.Mathlib.Nat.{le-div_iff_mul-le}
use native.Mathlib.Omega.{arith}
use lib.Count.{count_leading_zeros, leading_length}
use lib.ListN.{length, take, drop, length-drop, take-append-drop}
use lib.Pow.{pow_pos, pow_mono, pow-add, shr_lt}
use lib.Seq.{length-take-le}
use Rattle.bpg_codec.specs.Outcome.{Outcome, located}
use Rattle.bpg_codec.specs.Codec.{decode_at}
use Rattle.bpg_codec.specs.Bits.{number, bits}
use Rattle.bpg_codec.proofs.Bits.{number-bits}
use Rattle.std.specs.Prelude.{Some}
use Rattle.bpg_bits.specs.Answers.{bit_number, bit_answer}
use Rattle.bpg_bits.specs.BitNumbers.{region_bits, unsigned, prefix_zeros, exp_golomb_bits, exp_golomb}
use Rattle.bpg_bits.proofs.BitNumberLaws.{Top, top, top_unique, exp_golomb-one-field, exp_golomb-lawful, unsigned-found}
use Rattle.bpg_next_bits.specs.NextBits.{InWord}
use Rattle.bpg_next_bits.proofs.NextBitsLaws.{first-bits}

-- ---- ue(v) at the start of a word: at most 31 zero bits stand before its first one

module _ (w : ℕ) (small : w < 2 ^ 64) (few : count_leading_zeros 64 w ≤ 31) where
  abbrev z : ℕ
  z = count_leading_zeros 64 w

  -- the code without its zeros is the value plus 1
  abbrev pub plus_one : ℕ
  plus_one = w / 2 ^ (64 - (2 * z + 1))

  low-high : (2 ^ (63 - z) ≤ w) × (w < 2 ^ (64 - z))
  low-high =
      let t = leading_length 64 w small in
      let e : t.0 ≡ suc (63 - z) = omega (arith, t.1) in
      let f : 64 - z ≡ t.0 = omega (arith, t.1) in
      (omega (arith, rw e at t.3), rw f t.2)

  plus_one-low : 2 ^ z ≤ plus_one
  plus_one-low =
      let a : z + (64 - (2 * z + 1)) ≡ 63 - z = omega arith in
      let c : 2 ^ z * 2 ^ (64 - (2 * z + 1)) ≤ w = rw (← pow-add 2 z (64 - (2 * z + 1)), a) low-high.0 in
      (le-div_iff_mul-le (pow_pos (64 - (2 * z + 1)))).1 c

  plus_one-high : plus_one < 2 ^ suc z
  plus_one-high =
      let b : suc z + (64 - (2 * z + 1)) ≡ 64 - z = omega arith in
      shr_lt (suc z) (64 - (2 * z + 1)) (rw b low-high.1)

  pub plus_one-some : 1 ≤ plus_one
  plus_one-some = omega (arith, plus_one-low, pow_pos z)

  pub plus_one-small : plus_one < 2 ^ 32
  plus_one-small = omega (arith, plus_one-high, pow_mono {i = suc z} {j = 32} (omega arith))

  is_code : (v : ℕ) → v + 1 ≡ plus_one → (v < 2 ^ 32 - 1) × (exp_golomb_bits v ≡ bits (2 * z + 1) plus_one)
  is_code v e =
      let t : Top v z = record { most = omega arith; low = rw e plus_one-low; high = rw e (omega (arith, plus_one-high)) } in
      let valid : v < 2 ^ 32 - 1 = omega (arith, plus_one-small) in
      let q : prefix_zeros v ≡ z = top_unique v (prefix_zeros v) z (top v valid).0 t in
      (valid, exp_golomb-one-field v valid ∙ rw (q, e))

-- ---- fields in the next bits

module _ (region : List ℕ) (p w n : ℕ) (small : w < 2 ^ 64) (i : InWord region p w n) where
  abbrev l : List Bool
  l = region_bits region

  -- s bits
  pub bits-found : (s : ℕ) → s ≤ n → Some (bit_number (w / 2 ^ (64 - s)) (p + s)) ≡ bit_answer (decode_at l (unsigned s) 0 p)
  bits-found s h =
      let e : s + (64 - s) ≡ 64 = omega (arith, i.few) in
      let v : ℕ = w / 2 ^ (64 - s) in
      let f : number (take s (drop p l)) ≡ w / 2 ^ (64 - s) = ap number (first-bits region p w n i s h) ∙ number-bits s v (shr_lt s (64 - s) (rw e small)) in
      unsigned-found l p s v (omega (arith, i.there)) (sym f)

  -- ue(v)
  pub code-found : 2 * count_leading_zeros 64 w + 1 ≤ n → (few : count_leading_zeros 64 w ≤ 31) (v : ℕ) → v + 1 ≡ plus_one w small few
      → Some (bit_number v (p + (2 * count_leading_zeros 64 w + 1))) ≡ bit_answer (decode_at l exp_golomb 0 p)
  code-found h few v e =
      let s : ℕ = 2 * count_leading_zeros 64 w + 1 in
      let m = drop p l in
      let c = is_code w small few v e in
      let b : take (2 * count_leading_zeros 64 w + 1) (drop p l) ≡ exp_golomb_bits v = first-bits region p w n i s h ∙ sym c.1 in
      let k : length (exp_golomb_bits v) ≡ 2 * count_leading_zeros 64 w + 1 = sym (ap length b) ∙ length-take-le s m (rw length-drop (omega (arith, i.there))) in
      let t : drop p l ≡ exp_golomb_bits v ++ drop (2 * count_leading_zeros 64 w + 1) (drop p l) = sym (take-append-drop s m) ∙ ap (λ (x : List Bool). x ++ drop s m) b in
      sym (ap (λ (x : List Bool). bit_answer (located (exp_golomb.decode 0 p x))) t
      ∙ ap (λ (o : Outcome _). bit_answer (located o)) (exp_golomb-lawful.decodes v c.0 0 p (drop s m))
      ∙ rw k)
