-- The bits after a header's last field.
use mathlib.Core.Path.{◌≡◌, refl, sym, ap, ◌∙◌, subst}
use mathlib.Core.Bool.{Bool, true, false}
use mathlib.Core.List.{List, [], ◌∷◌}
use Prim.Native.Nat.{ℕ, ◌+◌, ◌-◌, ◌*◌, ◌/◌, ◌%◌, ◌^◌, ◌≤◌, ◌<◌}
use native.Mathlib.Omega.{arith}
use lib.Dec.{eqb}
use lib.ListN.{length, take, drop, get_or, length-take, length-drop, drop_of_length-le}
use lib.Pow.{pow_pos}
use lib.Seq.{drop-drop, drop_at, get_or-take}
use borrow.Author.Tests.{ne_eqb, lt-ltb, le-ltb}
use Rattle.bpg_codec.specs.Bits.{number_from, number, all_zero, is_padding, bits, unpack}
use Rattle.bpg_codec.proofs.Lists.{drop-next}
use Rattle.bpg_codec.proofs.Bits.{number_from-bounds, number_from-bits, bits-append, length-bits, unpack-one, length-unpack, unpack-drop}
use Rattle.bpg_bits.specs.BitNumbers.{region_bits}

-- zero bits make the number 0, and no others do
zero_number : (l : List Bool) → eqb (number l) 0 ≡ all_zero l
zero_number [] = refl
zero_number (true ∷ l) = ne_eqb (number_from 1 l) 0 λ e. omega (arith, e, (number_from-bounds l 1).0, pow_pos (length l))
zero_number (false ∷ l) = zero_number l

zero-low : (n b : ℕ) → eqb (b % 2 ^ n) 0 ≡ all_zero (bits n b)
zero-low n b =
    let e : number (bits n b) ≡ b % 2 ^ n = number_from-bits n b 0 ∙ omega arith in
    rw (← e) (zero_number (bits n b))

-- the last bits of a byte are its low ones
low_bits : (n b : ℕ) → n ≤ 8 → drop (8 - n) (bits 8 b) ≡ bits n b
low_bits n b h =
    let e : 8 - n + n ≡ 8 = omega arith in
    subst (λ (k : ℕ). drop (8 - n) (bits k b) ≡ bits n b) e
    (rw (bits-append (8 - n) n b) (drop_at (bits (8 - n) (b / 2 ^ n)) (bits n b) (8 - n) (length-bits (8 - n) (b / 2 ^ n))))

-- fewer than eight bits are left: they are in the last byte
last-bits : (l : List ℕ) (p n : ℕ) → p + n ≡ 8 * length l → 0 < n → n < 8 → drop p (unpack l) ≡ bits n (get_or l (p / 8) 0)
last-bits l p n e some few =
    let at : 8 * (p / 8) + (8 - n) ≡ p = omega arith in
    let last : drop (p / 8) l ≡ get_or l (p / 8) 0 ∷ [] =
    drop-next l (p / 8) 0 (omega arith) ∙ ap (λ (r : List ℕ). get_or l (p / 8) 0 ∷ r) (drop_of_length-le l {i = p / 8 + 1} (omega arith)) in
    sym (ap (λ (k : ℕ). drop k (unpack l)) at)
    ∙ sym (drop-drop (8 - n) (8 * (p / 8)) (unpack l))
    ∙ ap (drop (8 - n)) (sym (unpack-drop (p / 8) l) ∙ ap unpack last ∙ unpack-one (get_or l (p / 8) 0))
    ∙ low_bits n (get_or l (p / 8) 0) (omega arith)

module _ (bits : List Bool) (p : ℕ) where
  pub none_left : length bits ≤ p → true ≡ is_padding (drop p bits)
  none_left h = rw (drop_of_length-le bits h)

  pub many-left : 8 ≤ length bits - p → false ≡ is_padding (drop p bits)
  many-left h = rw (le-ltb (length (drop p bits)) 8 (omega (arith, length-drop p bits)))

-- the byte that p stands in decides
pub decided : (region : List ℕ) (p n b : ℕ) → n ≡ length (region_bits region) - p → 0 < n → n < 8 → b ≡ get_or region (p / 8) 0
    → eqb (b % 2 ^ n) 0 ≡ is_padding (drop p (region_bits region))
decided region p n b e some few at =
    let l = take (2 ^ 60) region in
    let long : length (unpack l) ≡ 8 * length l = length-unpack l in
    let b-is : get_or l (p / 8) 0 ≡ b = get_or-take (2 ^ 60) region (p / 8) 0 (omega (arith, long, length-take (2 ^ 60) region)) ∙ sym at in
    let here : drop p (unpack l) ≡ bits n b = last-bits l p n (omega (arith, long)) some few ∙ ap (bits n) b-is in
    rw (here, lt-ltb (length (bits n b)) 8 (rw length-bits few)) (zero-low n b)
