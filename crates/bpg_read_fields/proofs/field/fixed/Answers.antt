-- `field::fixed` meets its contract: n bits that are among the next bits are the high bits of the word.
use Rattle.std.proofs.Common.{◌≡◌, ℕ, min, ◌-◌, ◌/◌, ◌+◌, ◌^◌, ◌≤◌, ◌<◌, ap, ◌∙◌, arith}
use lib.Pow.{pow_mono, shr_lt}
use Rattle.bpg_codec.specs.Codec.{decode_at}
use Rattle.bpg_bits.specs.Answers.{bit_answer}
use Rattle.bpg_bits.specs.BitNumbers.{region_bits, unsigned}
use Rattle.bpg_next_bits.proofs.NextBitsLaws.{in-word-end}
use Rattle.bpg_next_bits.proofs.FieldLaws.{bits-found}
use Rattle.bpg_read_fields.proofs.field.fixed.Goals as goal

value-small : (w n : ℕ) → w < 2 ^ 64 → n ≤ 8 → w / 2 ^ (64 - n) < 2 ^ 8
value-small w n h few =
    let e : n + (64 - n) ≡ 64 = omega arith in
    omega (arith, shr_lt {n = w} n (64 - n) (rw e h), pow_mono {i = n} {j = 8} few)

pub overflow_cast-result : goal.overflow_cast-result
overflow_cast-result c = record { fits = omega (arith, value-small c.args.bits.word c.from-size.result (omega arith) (omega arith)) }

pub overflow_add-result : goal.overflow_add-result
overflow_add-result c =
    let a = c.args in
    record { fits = omega (arith, in-word-end a.region.now a.at.0 a.bits.word a.bits.count c.from-size.result c.requires.in_word (omega arith) (omega arith)) }

pub returns : goal.returns
returns c =
    let a = c.args in
    let l = region_bits a.region.now in
    let p = a.at.0 in
    let e : c.from-size.result ≡ min c.args.n 8 = omega arith in
    bits-found a.region.now p a.bits.word _ (omega arith) c.requires.in_word c.from-size.result (omega arith)
    ∙ ap (λ (k : ℕ). bit_answer (decode_at l (unsigned k) 0 p)) e
