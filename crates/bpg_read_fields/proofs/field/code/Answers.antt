-- `field::code` meets its contract: a code with at most 31 zero bits that ends in the next bits is there whole.
use Rattle.std.proofs.Common.{◌*◌, ◌+◌, ◌^◌, ◌≤◌, ◌<◌, arith}
use lib.Count.{count_leading_zeros}
use Rattle.bpg_next_bits.proofs.NextBitsLaws.{in-word-end}
use Rattle.bpg_next_bits.proofs.FieldLaws.{plus_one-some, plus_one-small, code-found}
use Rattle.bpg_read_fields.proofs.field.code.Goals as goal

pub overflow_sub-result-2 : goal.overflow_sub-result-2
overflow_sub-result-2 c = plus_one-some c.args.bits.word (omega arith) (omega (arith, c.requires.few))

pub overflow_cast-result : goal.overflow_cast-result
overflow_cast-result c =
    let few : count_leading_zeros 64 c.args.bits.word ≤ 31 = omega (arith, c.requires.few) in
    record { fits = omega (arith, plus_one-small c.args.bits.word (omega arith) few) }

pub overflow_add-result : goal.overflow_add-result
overflow_add-result c =
    let a = c.args in
    record { fits = omega (arith, in-word-end a.region.now a.at.0 a.bits.word a.bits.count (2 * count_leading_zeros 64 a.bits.word + 1) c.requires (omega arith) (omega arith)) }

pub returns : goal.returns
returns c =
    let a = c.args in
    let w = a.bits.word in
    let small : a.bits.word < 2 ^ 64 = omega arith in
    let few : count_leading_zeros 64 a.bits.word ≤ 31 = omega (arith, c.requires.few) in
    code-found a.region.now a.at.0 w _ small c.requires (omega arith) few _ (omega (arith, plus_one-some w small few))
