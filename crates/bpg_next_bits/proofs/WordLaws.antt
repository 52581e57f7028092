-- Bytes into a word.
use mathlib.Core.Path.{◌≡◌, refl, sym, ap, ap₂, ◌∙◌, subst}
use mathlib.Core.Bool.{Bool, false}
use mathlib.Core.List.{List, [], ◌∷◌, ◌++◌}
use Prim.Native.Nat.{ℕ, suc, ◌+◌, ◌-◌, ◌*◌, ◌%◌, ◌^◌, ◌≤◌, ◌<◌}
use native.Mathlib.Nat.{zero-mod}
use native.Mathlib.Omega.{arith}
use lib.ListN.{length, take, drop, get_or, length-append, length-replicate, drop_of_length-le}
use lib.Pow.{pow-add, shl_lt, shl_exact}
use lib.Seq.{take-add, take-suc, take-append-le, drop-append-le, length-take-le}
use Rattle.bpg_codec.specs.Bits.{number, number_from, bits, zeros, unpack}
use Rattle.bpg_codec.proofs.Lists.{either_way, take-replicate}
use Rattle.bpg_codec.proofs.Bits.{number_from-bits, number_from-append, number_small, bits-number, bits-zero, unpack-one, unpack-append, unpack-take, length-unpack}

number-zeros : (l : List Bool) (n : ℕ) → number (l ++ zeros n) ≡ number l * 2 ^ n
number-zeros l n =
    number_from-append l (zeros n) 0 ∙ ap (number_from (number l)) (sym (bits-zero n)) ∙ number_from-bits n 0 (number l) ∙ rw zero-mod (omega arith)

-- the number that the first k bytes make
abbrev pub first_bytes : List ℕ → ℕ → ℕ
first_bytes m k = number (unpack (take k m))

length-first : (m : List ℕ) (k : ℕ) → k ≤ length m → length (unpack (take k m)) ≡ 8 * k
length-first m k h = rw (length-unpack, length-take-le k m h)

-- they stand in the high bits of a word, and f bits are free
module _ (m : List ℕ) (k f : ℕ) (full : 8 * k + f ≡ 64) (there : k ≤ length m) where
  pub fits : first_bytes m k * 2 ^ f < 2 ^ 64
  fits = subst (λ (n : ℕ). first_bytes m k * 2 ^ f < 2 ^ n) full (shl_lt (8 * k) f (number_small (8 * k) (unpack (take k m)) (length-first m k there)))

  -- all that are there, or eight
  word-whole : (w : ℕ) → w ≡ first_bytes m k * 2 ^ f → bits 64 w ≡ unpack (take k m) ++ zeros f
  word-whole w e =
      let x = unpack (take k m) ++ zeros f in
      let n : length (unpack (take k m) ++ zeros f) ≡ 64 = rw (length-append, length-replicate, length-first m k there) full in
      rw (e, ← number-zeros (unpack (take k m)) f) (bits-number 64 x n)

  rest-zeros : (k < length m → 8 ≤ k) → take f (drop (8 * k) (unpack m ++ zeros 64)) ≡ zeros f
  rest-zeros done =
      let d : drop (8 * k) (unpack m ++ zeros 64) ≡ drop (8 * k) (unpack m) ++ zeros 64 = drop-append-le (8 * k) (unpack m) (zeros 64) (omega (arith, length-unpack m)) in
      either_way (length m) k
      (λ h. rw (d, drop_of_length-le (unpack m) {i = 8 * k} (omega (arith, length-unpack m))) (take-replicate f 64 false (omega arith)))
      (λ h. let z : f ≡ 0 = omega (arith, done h) in rw z)

  pub word-is : (w : ℕ) → w ≡ first_bytes m k * 2 ^ f → (k < length m → 8 ≤ k) → bits 64 w ≡ take 64 (unpack m ++ zeros 64)
  word-is w e done =
      let l = unpack m ++ zeros 64 in
      word-whole w e
      ∙ sym (ap (λ (n : ℕ). take n l) (sym full) ∙ take-add (8 * k) f l
      ∙ ap₂ ◌++◌ (take-append-le (8 * k) (unpack m) (zeros 64) (omega (arith, length-unpack m)) ∙ sym (unpack-take k m)) (rest-zeros done))

-- no byte yet
pub no_bytes : (m : List ℕ) → first_bytes m 0 ≡ 0
unfolding unpack
no_bytes m = refl

-- one byte more
pub next-byte : (m : List ℕ) (k f b w : ℕ) → k < length m → b ≡ get_or m k 0 → b < 256 → 8 ≤ f → f ≤ 64 → w ≡ first_bytes m k * 2 ^ f
    → w + (b * 2 ^ (f - 8)) % 2 ^ 64 ≡ first_bytes m (suc k) * 2 ^ (f - 8)
next-byte m k f b w h e small free most i =
    let v = first_bytes m k in
    let g : f ≡ 8 + (f - 8) = omega arith in
    let p : 2 ^ f ≡ 256 * 2 ^ (f - 8) = ap (λ (n : ℕ). 2 ^ n) g ∙ pow-add 2 8 (f - 8) in
    let l : unpack (take (suc k) m) ≡ unpack (take k m) ++ bits 8 b = ap unpack (take-suc m k 0 h ∙ rw (← e)) ∙ unpack-append (take k m) (b ∷ []) ∙ rw (unpack-one b) in
    let n : first_bytes m (suc k) ≡ first_bytes m k * 256 + b = ap number l ∙ number_from-append (unpack (take k m)) (bits 8 b) 0 ∙ number_from-bits 8 b v ∙ omega arith in
    rw (shl_exact 8 (f - 8) 64 small (omega arith), i, n, p) (omega arith)
