-- The next bits, and those that are left after the first of them.
use mathlib.Core.Path.{◌≡◌, refl, sym, ap, ◌∙◌}
use mathlib.Core.Bool.{Bool}
use mathlib.Core.List.{List, ◌++◌}
use Prim.Native.Nat.{ℕ, zero, suc, ◌+◌, ◌-◌, ◌*◌, ◌/◌, ◌%◌, ◌^◌, ◌≤◌, ◌<◌}
use native.Mathlib.Omega.{arith}
use lib.ListN.{length, take, drop, length-append, length-take, length-drop, take-append-drop}
use lib.Pow.{shl-shr, shr-shr, field}
use lib.Seq.{take_at, drop_at, drop-drop, take-take, take-append-le, drop-append-le}
use Rattle.bpg_codec.specs.Bits.{bits, zeros, unpack}
use Rattle.bpg_codec.proofs.Lists.{either_way, take-drop}
use Rattle.bpg_codec.proofs.Bits.{length-bits, bits-append, bits-mod, unpack-drop, unpack-take, length-unpack}
use Rattle.bpg_bits.specs.BitNumbers.{region_bits}
use Rattle.bpg_next_bits.specs.NextBits.{word_bits, InWord}

-- ---- the bits of a word

-- its n high bits
high_bits : (w n : ℕ) → n ≤ 64 → take n (bits 64 w) ≡ bits n (w / 2 ^ (64 - n))
high_bits w n h =
    let e : 64 ≡ n + (64 - n) = omega arith in
    ap (λ (k : ℕ). take n (bits k w)) e ∙ rw (bits-append n (64 - n) w) (take_at (bits n (w / 2 ^ (64 - n))) (bits (64 - n) w) n (length-bits n _))

-- n bits from bit `at` on are the n high bits of the word that was moved by `at`
moved : (w at n : ℕ) → at + n ≤ 64 → take n (drop at (bits 64 w)) ≡ bits n ((w * 2 ^ at) % 2 ^ 64 / 2 ^ (64 - n))
moved w at n h =
    let r : at + (n + (64 - at - n)) ≡ 64 = omega arith in
    let k : at + (64 - at - n) ≡ 64 - n = omega arith in
    let j : n + (64 - n) ≡ 64 = omega arith in
    let a : drop at (bits 64 w) ≡ bits n (w / 2 ^ (64 - at - n)) ++ bits (64 - at - n) w =
    ap (λ (c : ℕ). drop at (bits c w)) (sym r)
    ∙ ap (drop at) (bits-append at (n + (64 - at - n)) w)
    ∙ drop_at (bits at (w / 2 ^ (n + (64 - at - n)))) _ at (length-bits at _)
    ∙ bits-append n (64 - at - n) w in
    let b : w * 2 ^ at / 2 ^ (64 - n) ≡ w / 2 ^ (64 - at - n) = rw (← k) (sym (shr-shr (w * 2 ^ at) at (64 - at - n)) ∙ rw shl-shr) in
    let c : (w * 2 ^ at) % 2 ^ 64 / 2 ^ (64 - n) ≡ w / 2 ^ (64 - at - n) % 2 ^ n =
    ap (λ (c : ℕ). (w * 2 ^ at) % 2 ^ c / 2 ^ (64 - n)) (sym j) ∙ field (w * 2 ^ at) n (64 - n) ∙ rw b in
    rw (a, c, bits-mod) (take_at (bits n (w / 2 ^ (64 - at - n))) _ n (length-bits n _))

-- ---- a region and its word

-- the first bits of a list are those of a longer one that begins with it
longer : (l rest : List Bool) (p n : ℕ) → 0 < n → n ≤ length l - p
    → (take n (drop p (l ++ rest)) ≡ take n (drop p l)) × (n ≤ length (drop p (l ++ rest)))
longer l rest p n some there =
    let d : drop p (l ++ rest) ≡ drop p l ++ rest = drop-append-le p l rest (omega arith) in
    (ap (take n) d ∙ take-append-le n (drop p l) rest (rw length-drop there), rw (d, length-append, length-drop) (omega arith))

-- a region's bits begin its bytes' bits
region-first : (l : List ℕ) → unpack l ≡ region_bits l ++ drop (8 * 2 ^ 60) (unpack l)
region-first l = sym (take-append-drop (8 * 2 ^ 60) (unpack l)) ∙ ap (λ (x : List Bool). x ++ drop (8 * 2 ^ 60) (unpack l)) (sym (unpack-take (2 ^ 60) l))

-- a word shows the region's bits, as many as are there
module _ (l : List ℕ) (at w : ℕ) (e : bits 64 w ≡ word_bits l (at / 8)) (whole : at % 8 ≡ 0) where
  same_first : (n : ℕ) → n ≤ 63 → n ≤ length (region_bits l) - at → take n (drop at (region_bits l)) ≡ take n (bits 64 w)
  same_first zero few there = refl
  same_first (suc n) few there =
      let m = unpack (drop (at / 8) l) in
      let p : 8 * (at / 8) ≡ at = omega arith in
      let d : unpack (drop (at / 8) l) ≡ drop at (region_bits l ++ drop (8 * 2 ^ 60) (unpack l)) = unpack-drop (at / 8) l ∙ rw p (ap (drop at) (region-first l)) in
      let o = longer (region_bits l) (drop (8 * 2 ^ 60) (unpack l)) at (suc n) (omega arith) there in
      sym (ap (take (suc n)) e ∙ take-take (suc n) 64 (m ++ zeros 64) (omega arith) ∙ take-append-le (suc n) m (zeros 64) (rw d o.1) ∙ ap (take (suc n)) d ∙ o.0)

  pub in-word-first : (n : ℕ) → n ≤ 63 → n ≤ length (region_bits l) - at → InWord l at w n
  in-word-first n few there = record { few = few; there = there; same = same_first n few there }

-- some of them end where a position can stand
pub in-word-end : (l : List ℕ) (p w n s : ℕ) → InWord l p w n → 0 < s → s ≤ n → p + s ≤ 2 ^ 63
in-word-end l p w n s i some h = omega (arith, i.there, length-unpack (take (2 ^ 60) l), length-take (2 ^ 60) l)

-- no bits
pub in-word-none : (l : List ℕ) (p w : ℕ) → InWord l p w 0
in-word-none l p w = record { few = omega arith; there = omega arith; same = refl }

-- ---- the first of the next bits, and what is left after them

module _ (region : List ℕ) (p w n : ℕ) (i : InWord region p w n) where
  abbrev l : List Bool
  l = region_bits region

  pub first-bits : (s : ℕ) → s ≤ n → take s (drop p l) ≡ bits s (w / 2 ^ (64 - s))
  first-bits s h =
      sym (take-take s n (drop p l) h) ∙ ap (take s) i.same ∙ take-take s n (bits 64 w) h ∙ high_bits w s (omega (arith, i.few))

  same_left : (s : ℕ) → s < n → take (n - s) (drop (p + s) l) ≡ take (n - s) (bits 64 ((w * 2 ^ s) % 2 ^ 64))
  same_left s h =
      let e : s + (n - s) ≡ n = omega arith in
      ap (take (n - s)) (sym (drop-drop s p l))
      ∙ take-drop (n - s) s (drop p l)
      ∙ rw e (ap (drop s) i.same)
      ∙ ap (λ (k : ℕ). drop s (take k (bits 64 w))) (sym e)
      ∙ sym (take-drop (n - s) s (bits 64 w))
      ∙ moved w s (n - s) (omega (arith, i.few))
      ∙ sym (high_bits ((w * 2 ^ s) % 2 ^ 64) (n - s) (omega (arith, i.few)))

  pub in-word-left : (s : ℕ) → InWord region (p + s) ((w * 2 ^ (s % 64)) % 2 ^ 64) (n - s)
  in-word-left s =
      either_way n s
      (λ h. let z : n - s ≡ 0 = omega arith in rw z (in-word-none region (p + s) _))
      (λ h. let m : s % 64 ≡ s = omega (arith, i.few) in record { few = omega (arith, i.few); there = omega (arith, i.there); same = rw m (same_left s h) })
