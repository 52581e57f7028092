-- `short::read` meets its contract: the field stands in two bytes.
use Rattle.std.proofs.Common.{ℕ, ◌≡◌, ◌+◌, ◌*◌, ◌%◌, ◌^◌, get_or, ap, ◌∙◌, arith}
use Rattle.bpg_codec.specs.Codec.{decode_at}
use Rattle.bpg_codec.proofs.Shifts.{one_shifted}
use Rattle.bpg_bits.specs.Answers.{bit_answer}
use Rattle.bpg_bits.specs.BitNumbers.{region_bits, unsigned}
use Rattle.bpg_bits.proofs.BitNumberLaws.{unsigned-found}
use Rattle.bpg_bits.proofs.ShortLaws.{short-number}
use Rattle.bpg_bits.proofs.short.read.Goals as goal

pub returns : goal.returns
returns c =
    let region = c.args.region.now in
    let at = c.args.at.0 in
    let width = c.min-width.result in
    let power : (1 * 2 ^ width) % 2 ^ 64 ≡ 2 ^ width = one_shifted width 64 (omega arith) in
    let byte = c.byte_of-byte.ensures in
    let first = c.from.ensures ∙ c.byte_at.ensures ∙ ap (λ (k : ℕ). get_or region k 0) byte in
    let second = c.from-2.ensures ∙ c.byte_at-2.ensures ∙ ap (λ (k : ℕ). get_or region (k + 1) 0) byte in
    rw power
    (unsigned-found (region_bits region) at width _ (omega arith) (short-number region at width (omega arith) (omega arith) _ _ first second (omega arith))
    ∙ ap (λ (n : ℕ). bit_answer (decode_at (region_bits region) (unsigned n) 0 at)) c.min-width.ensures)
