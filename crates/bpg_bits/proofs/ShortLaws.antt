-- A field of at most eight bits stands in two bytes.
use mathlib.Core.Path.{◌≡◌, sym, ap, ap₂, ◌∙◌}
use mathlib.Core.List.{List, [], ◌∷◌, ◌++◌, append_assoc}
use Prim.Native.Nat.{ℕ, zero, suc, ◌+◌, ◌-◌, ◌*◌, ◌/◌, ◌%◌, ◌^◌, ◌≤◌, ◌<◌}
use native.Mathlib.Nat.{mod-one}
use native.Mathlib.Omega.{arith}
use lib.ListN.{length, take, drop, get_or, length-append, length-take, length-drop}
use lib.Seq.{take-append-le, take-take, take_at, drop_at, drop-drop, get_or-drop}
use Rattle.bpg_codec.specs.Bits.{number, bits, unpack}
use Rattle.bpg_codec.proofs.Lists.{take-drop}
use Rattle.bpg_codec.proofs.Bits.{length-bits, number_from-bits, bits-append, bits-mod, unpack-drop, unpack-take, length-unpack}
use Rattle.bpg_bits.specs.BitNumbers.{region_bits}

-- the first bits of bytes are those of the first two
first_two : (m : List ℕ) (k : ℕ) → k ≤ 8 * length m → k ≤ 16 → take k (unpack m) ≡ take k (bits 8 (get_or m 0 0) ++ bits 8 (get_or m 1 0))
unfolding unpack
first_two [] k h g = let z : k ≡ 0 = omega arith in rw z
first_two (x ∷ []) k h g =
    let n : k ≤ length (bits 8 x) = rw length-bits (omega arith) in
    take-append-le k (bits 8 x) [] n ∙ sym (take-append-le k (bits 8 x) (bits 8 0) n)
first_two (x ∷ (y ∷ m)) k h g =
    let n : k ≤ length (bits 8 x ++ bits 8 y) = rw (length-append, length-bits 8 x, length-bits 8 y) (omega arith) in
    ap (take k) (sym (append_assoc (bits 8 x) (bits 8 y) (unpack m))) ∙ take-append-le k (bits 8 x ++ bits 8 y) (unpack m) n

-- two bytes as a number of 16 bits
pub two_bytes : (a b : ℕ) → b < 256 → bits 8 a ++ bits 8 b ≡ bits 16 (a * 256 + b)
two_bytes a b h =
    let d : (a * 256 + b) / 2 ^ 8 ≡ a = omega arith in
    let m : (a * 256 + b) % 2 ^ 8 ≡ b = omega arith in
    sym (bits-append 8 8 (a * 256 + b) ∙ ap₂ ◌++◌ (ap (bits 8) d) (sym (bits-mod 8 (a * 256 + b)) ∙ ap (bits 8) m))

-- n bits of a number after its o highest
pub middle : (o n v : ℕ) → o + n ≤ 16 → take n (drop o (bits 16 v)) ≡ bits n (v / 2 ^ (16 - o - n))
middle o n v h =
    let c : ℕ = 16 - o - n in
    let e : 16 ≡ o + (n + (16 - o - n)) = omega arith in
    ap (λ (k : ℕ). take n (drop o (bits k v))) e
    ∙ rw (bits-append o (n + c) v, drop_at (bits o (v / 2 ^ (n + c))) (bits (n + c) v) o (length-bits o _), bits-append n c v)
    (take_at (bits n (v / 2 ^ c)) (bits c v) n (length-bits n _))

module _ (l : List ℕ) (p n : ℕ) (few : n ≤ 8) where
  -- the bits from a position on, from its byte on
  from_byte : drop p (unpack l) ≡ drop (p % 8) (unpack (drop (p / 8) l))
  from_byte =
      let e : p ≡ 8 * (p / 8) + p % 8 = omega arith in
      ap (λ (k : ℕ). drop k (unpack l)) e ∙ sym (ap (drop (p % 8)) (unpack-drop (p / 8) l) ∙ drop-drop (p % 8) (8 * (p / 8)) (unpack l))

  -- the field in the two bytes
  short-bits : p + n ≤ 8 * length l → (a b : ℕ) → a ≡ get_or l (p / 8) 0 → b ≡ get_or l (p / 8 + 1) 0 → b < 256
      → take n (drop p (unpack l)) ≡ bits n ((a * 256 + b) / 2 ^ (16 - p % 8 - n))
  short-bits h a b ea eb small =
      let m = drop (p / 8) l in
      let o : ℕ = p % 8 in
      let k : p % 8 + n ≤ 16 = omega arith in
      let inside : p % 8 + n ≤ 8 * length (drop (p / 8) l) = rw length-drop (omega arith) in
      let z : p / 8 + 0 ≡ p / 8 = omega arith in
      let ga : get_or m 0 0 ≡ a = get_or-drop (p / 8) l 0 0 ∙ rw z (sym ea) in
      let gb : get_or m 1 0 ≡ b = get_or-drop (p / 8) l 1 0 ∙ sym eb in
      ap (take n) from_byte ∙ take-drop n o (unpack m) ∙ ap (drop o) (first_two m (o + n) inside k) ∙ sym (take-drop n o _)
      ∙ rw (ga, gb, two_bytes a b small) (middle o n (a * 256 + b) k)

  inside-number : p + n ≤ length (region_bits l) → (a b : ℕ) → a ≡ get_or l (p / 8) 0 → b ≡ get_or l (p / 8 + 1) 0 → b < 256
      → (a * 256 + b) / 2 ^ (16 - p % 8 - n) % 2 ^ n ≡ number (take n (drop p (region_bits l)))
  inside-number h a b ea eb small =
      let v : ℕ = (a * 256 + b) / 2 ^ (16 - p % 8 - n) in
      let inside : p + n ≤ 8 * length l = omega (arith, length-unpack (take (2 ^ 60) l), length-take (2 ^ 60) l) in
      let most : p + n ≤ 8 * 2 ^ 60 = omega (arith, length-unpack (take (2 ^ 60) l), length-take (2 ^ 60) l) in
      let cut : take n (drop p (region_bits l)) ≡ take n (drop p (unpack l)) =
      take-drop n p (region_bits l) ∙ ap (drop p) (ap (take (p + n)) (unpack-take (2 ^ 60) l) ∙ take-take (p + n) (8 * 2 ^ 60) (unpack l) most) ∙ sym (take-drop n p (unpack l)) in
      sym (ap number (cut ∙ short-bits inside a b ea eb small) ∙ number_from-bits n v 0 ∙ omega arith)

-- the number that n bits at p make, from the byte that p stands in and the next one; no bits are 0 past the end too
pub short-number : (l : List ℕ) (p n : ℕ) → n ≤ 8 → n ≤ length (region_bits l) - p → (a b : ℕ) → a ≡ get_or l (p / 8) 0 → b ≡ get_or l (p / 8 + 1) 0 → b < 256
    → (a * 256 + b) / 2 ^ (16 - p % 8 - n) % 2 ^ n ≡ number (take n (drop p (region_bits l)))
short-number l p zero few left a b ea eb small = mod-one _
short-number l p (suc n) few left a b ea eb small = inside-number l p (suc n) few (omega arith) a b ea eb small
