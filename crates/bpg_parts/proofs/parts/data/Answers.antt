-- `parts::data` meets its contract.
use Rattle.std.proofs.Common.{◌≡◌, ◌+◌, ◌-◌, ap, arith}
use Rattle.bpg_codec.proofs.Tokens.{all-bytes}
use Rattle.bpg_format.specs.declared.answer.Reading.{Reading}
use Rattle.bpg_format.specs.Parts.{range_end}
use Rattle.bpg_parts.proofs.PartLaws.{data-inside, data-bytes}
use Rattle.bpg_parts.proofs.parts.data.Goals as goal

pub slice_bounds-result-end : goal.slice_bounds-result-end
slice_bounds-result-end c =
    let inside = data-inside c.args.file.now (all-bytes c.args.file.now (λ i. omega (arith, c.type_inv.file i))) in
    omega (arith, inside, ap (λ (x : Reading). range_end x.«record».«data») c.read.ensures.value)

pub returns-clause-result_value : goal.returns-clause-result_value
returns-clause-result_value c =
    let p = c.read.result.«record».«data» in
    let n : p.start + p.length - p.start ≡ p.length = omega arith in
    data-bytes _ c.read.result c.read.ensures.value n
