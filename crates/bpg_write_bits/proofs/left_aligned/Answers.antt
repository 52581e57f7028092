-- A shift drops the bits above, and puts zeros below.
use Rattle.std.proofs.Common.{◌≡◌, ℕ, ◌+◌, ◌-◌, ◌*◌, ◌%◌, ◌^◌, ◌≤◌, ◌++◌, sym, ap, ap₂, ◌∙◌, subst, arith}
use Rattle.std.proofs.Math.Nat.{mul-mod_left}
use lib.Pow.{shl-shr}
use Rattle.bpg_codec.specs.Bits.{bits, zeros}
use Rattle.bpg_codec.proofs.Bits.{bits-append, bits-mod, bits-zero}
use Rattle.bpg_write_bits.proofs.BitBufferLaws.{shifted}
use Rattle.bpg_write_bits.proofs.left_aligned.Goals as goal

none : (v n : ℕ) → n ≡ 0 → bits 64 0 ≡ bits n v ++ zeros (64 - n)
unfolding bits
none v n e = rw e (bits-zero 64)

some : (v n : ℕ) → n ≤ 64 → bits 64 (v * 2 ^ (64 - n) % 2 ^ 64) ≡ bits n v ++ zeros (64 - n)
some v n h =
    let k = 64 - n in
    let x = v % 2 ^ n * 2 ^ (64 - n) in
    let e : n + (64 - n) ≡ 64 = omega arith in
    let s : v * 2 ^ (64 - n) % 2 ^ 64 ≡ v % 2 ^ n * 2 ^ (64 - n) = subst (λ (m : ℕ). v * 2 ^ (64 - n) % 2 ^ m ≡ v % 2 ^ n * 2 ^ (64 - n)) e (shifted v n (64 - n)) in
    let low : x % 2 ^ (64 - n) ≡ 0 = mul-mod_left (v % 2 ^ n) (2 ^ (64 - n)) in
    ap (bits 64) s
    ∙ ap (λ (m : ℕ). bits m x) (sym e)
    ∙ bits-append n k x
    ∙ ap₂ ◌++◌ (ap (bits n) (shl-shr (v % 2 ^ n) k) ∙ bits-mod n v) (sym (bits-mod k x) ∙ ap (bits k) low ∙ bits-zero k)

pub returns-then-n-eq0 : goal.returns-then-n-eq0
returns-then-n-eq0 c = none _ _ c.if-n-eq0.true

pub returns-else-n-eq0 : goal.returns-else-n-eq0
returns-else-n-eq0 c = some _ _ c.requires
