-- `NextBits::new` meets its contract.
use Rattle.std.proofs.Common.{ap, ◌∙◌, arith}
use Rattle.bpg_next_bits.specs.NextBits.{word_bits}
use Rattle.bpg_next_bits.proofs.NextBitsLaws.{in-word-first}
use Rattle.bpg_next_bits.proofs.NextBits.new.Goals as goal

pub returns : goal.returns
returns c =
    let a = c.args in
    in-word-first a.region.now a.at.0 c.read-word.result (c.read-word.ensures ∙ ap (word_bits a.region.now) c.byte_of.ensures)
    c.if-at-ne0.false c.min-count.result (omega arith) (omega arith)
