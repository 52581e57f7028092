-- YCgCo without negative numbers: each of the three is a difference of natural numbers, which is 0 where it would be below zero.
use mathlib.Core.Path.{◌≡◌, sym, ap, ◌∙◌}
use Prim.Native.Nat.{ℕ, zero, suc, ◌+◌, ◌-◌, ◌/◌, ◌≤◌, min}
use native.Mathlib.Omega.{arith}
use lib.IntN.{ℤ, pos, neg_ℤ, ◌+ℤ◌, ◌-ℤ◌, +ℤ_assoc, +ℤ_comm, neg_ℤ-+ℤ, neg_ℤ-neg_ℤ}
use borrow.Author.Tests.{lt-ltb, le-ltb}
use Rattle.bpg_codec.proofs.Lists.{either_way}
use Rattle.bpg_sample_rules.specs.Rules.{max_sample, half_range, chroma, clip, green_of, blue_of, red_of}
use Rattle.bpg_sample_rules.proofs.Depths.{half_twice, half_is}

-- ---- differences of whole numbers

swap : (a b c d : ℤ) → (a +ℤ b) +ℤ (c +ℤ d) ≡ (a +ℤ c) +ℤ (b +ℤ d)
swap a b c d =
    +ℤ_assoc a b (c +ℤ d)
    ∙ ap (λ (z : ℤ). a +ℤ z) (sym (+ℤ_assoc b c d) ∙ ap (λ (z : ℤ). z +ℤ d) (+ℤ_comm b c) ∙ +ℤ_assoc c b d)
    ∙ sym (+ℤ_assoc a c (b +ℤ d))

sums : (a b c d : ℕ) → (pos a -ℤ pos b) +ℤ (pos c -ℤ pos d) ≡ pos (a + c) -ℤ pos (b + d)
sums a b c d = swap (pos a) (neg_ℤ (pos b)) (pos c) (neg_ℤ (pos d)) ∙ ap (λ (z : ℤ). pos (a + c) +ℤ z) (sym (neg_ℤ-+ℤ (pos b) (pos d)))

turned : (a b : ℕ) → neg_ℤ (pos a -ℤ pos b) ≡ pos b -ℤ pos a
turned a b = neg_ℤ-+ℤ (pos a) (neg_ℤ (pos b)) ∙ ap (λ (z : ℤ). neg_ℤ (pos a) +ℤ z) (neg_ℤ-neg_ℤ (pos b)) ∙ +ℤ_comm (neg_ℤ (pos a)) (pos b)

clip-difference : (m a b : ℕ) → clip m (pos a -ℤ pos b) ≡ min m (a - b)
unfolding clip
clip-difference m a zero = ap (min m) (omega arith)
clip-difference m a (suc b) =
    either_way (suc b) a (λ h. let e = le-ltb a (suc b) h in rw e) λ h. let e = lt-ltb a (suc b) h in rw e (omega arith)

t-is : (half y cg : ℕ) → pos y -ℤ (pos cg -ℤ pos half) ≡ pos (y + half) -ℤ pos cg
t-is half y cg = ap (λ (z : ℤ). pos y +ℤ z) (turned cg half) ∙ sym (+ℤ_assoc (pos y) (pos half) (neg_ℤ (pos cg)))

-- ---- what the code computes, where half is M / 2 + 1 and t is T + half

module _ (d y cg co m half t : ℕ) (low : 8 ≤ d) (m-is : m ≡ max_sample d) (half_of_lem : half ≡ m / 2 + 1) (c : cg ≤ m) (t_of : t ≡ y + (half + half) - cg) where
  half-range : half ≡ half_range d
  half-range = half_of_lem ∙ ap (λ (n : ℕ). n / 2 + 1) m-is ∙ half_is d (omega arith)

  pub green-is : min m (y + cg - half) ≡ green_of d y cg
  unfolding green_of
  green-is =
      rw (m-is, half-range)
      (sym (clip-difference (max_sample d) (y + cg) (half_range d)) ∙ ap (clip (max_sample d)) (+ℤ_assoc (pos y) (pos cg) (neg_ℤ (pos (half_range d)))))

  pub blue-is : min m (t - co) ≡ blue_of d y cg co
  unfolding blue_of
  blue-is =
      let h = half_range d in
      let e : t - co ≡ y + h + h - (cg + co) = omega (arith, t_of, half-range) in
      ap (min m) e ∙ ap (λ (n : ℕ). min n (y + h + h - (cg + co))) m-is
      ∙ sym (ap (clip (max_sample d))
      (ap (λ (z : ℤ). z -ℤ chroma d co) (t-is h y cg) ∙ ap (λ (z : ℤ). (pos (y + h) -ℤ pos cg) +ℤ z) (turned co h) ∙ sums (y + h) cg h co)
      ∙ clip-difference (max_sample d) (y + h + h) (cg + co))

  pub red-is : min m (t + co - (half + half)) ≡ red_of d y cg co
  unfolding red_of
  red-is =
      let h = half_range d in
      let e : t + co - (half + half) ≡ y + h + co - (cg + h) = omega (arith, t_of, half-range, half_twice d (omega arith), c, m-is) in
      ap (min m) e ∙ ap (λ (n : ℕ). min n (y + h + co - (cg + h))) m-is
      ∙ sym (ap (clip (max_sample d)) (ap (λ (z : ℤ). z +ℤ chroma d co) (t-is h y cg) ∙ sums (y + h) cg co h)
      ∙ clip-difference (max_sample d) (y + h + co) (cg + h))
