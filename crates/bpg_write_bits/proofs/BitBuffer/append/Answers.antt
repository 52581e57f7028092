-- A shift and a sum.
use Rattle.std.proofs.Common.{◌≡◌, ℕ, ◌+◌, ◌-◌, ◌*◌, ◌%◌, ◌^◌, ◌≤◌, ◌<◌, sym, ap, ◌∙◌, subst, arith}
use Rattle.std.proofs.Math.Nat.{zero-add, zero-mul, mod-lt}
use lib.Pow.{pow_pos}
use Rattle.bpg_codec.specs.Bits.{bits}
use Rattle.bpg_codec.proofs.Bits.{length-bits, number_from-bits}
use Rattle.bpg_codec.proofs.Shifts.{one_shifted}
use Rattle.bpg_write_bits.specs.declared.BitBuffer.{BitBuffer}
use Rattle.bpg_write_bits.specs.BitBuffer.{overfull, appended}
use Rattle.bpg_write_bits.proofs.BitBufferLaws.{append-fits, append-not, shifted, shifted_fits}
use Rattle.bpg_write_bits.proofs.BitBuffer.append.Goals as goal
use Rattle.bpg_write_bits.proofs.BitBuffer.append.Goals.{then-self-gt64-via-then-self-gt64, then-self-gt64-via-else-self-gt64+then-self-width}

-- the code's sum, for a width of at most 63
module _ (b : BitBuffer) (v w : ℕ) (h : w ≤ 63) where
  abbrev sum : ℕ
  sum = (b.bits * 2 ^ w) % 2 ^ 64 + v % ((1 * 2 ^ w) % 2 ^ 64)

  both : 64 - w + w ≡ 64
  both = omega arith

  sum_is : sum ≡ b.bits % 2 ^ (64 - w) * 2 ^ w + v % 2 ^ w
  sum_is =
      rw (one_shifted w 64 (omega arith))
      (ap (λ (x : ℕ). x + v % 2 ^ w) (subst (λ (n : ℕ). (b.bits * 2 ^ w) % 2 ^ n ≡ b.bits % 2 ^ (64 - w) * 2 ^ w) both (shifted b.bits (64 - w) w)))

  sum_fits : sum < 2 ^ 64
  sum_fits = rw sum_is (subst (λ (n : ℕ). b.bits % 2 ^ (64 - w) * 2 ^ w + v % 2 ^ w < 2 ^ n) both (shifted_fits b.bits (64 - w) w (v % 2 ^ w) (mod-lt v (pow_pos w))))

  appended-is : b.len.0 + w ≤ 64 → ◌≡◌ {A = BitBuffer} (record { bits = sum; len = record { 0 = b.len.0 + w } }) (appended b (bits w v))
  appended-is k = rw (sum_is, append-fits b (bits w v) (rw length-bits k), length-bits, number_from-bits, zero-mul, zero-add)

  appended-not : 64 < b.len.0 + w → overfull ≡ appended b (bits w v)
  appended-not k = sym (append-not b (bits w v) (rw length-bits k))

-- the width is known
same : (b : BitBuffer) (v w n : ℕ) → w ≡ n → appended b (bits w v) ≡ appended b (bits n v)
same b v w n e = ap (λ (k : ℕ). appended b (bits k v)) e

pub returns-then-self-gt64 : goal.returns-then-self-gt64
returns-then-self-gt64 c =
    let w = c.min-width.result in
    let b = c.args.self in
    let k : 64 < b.len.0 + w =
    elim c.then-self-gt64.branch [ then-self-gt64-via-then-self-gt64 x ↦ omega arith | then-self-gt64-via-else-self-gt64+then-self-width x ↦ omega arith ] in
    appended-not b c.args.v w (omega arith) k ∙ same b c.args.v w _ c.min-width.ensures

pub overflow_add-result : goal.overflow_add-result
overflow_add-result c = omega (arith, sum_fits c.args.self c.args.v c.min-width.result (omega arith))

pub returns : goal.returns
returns c =
    let w = c.min-width.result in
    appended-is c.args.self c.args.v w (omega arith) (omega arith) ∙ same c.args.self c.args.v w _ c.min-width.ensures
