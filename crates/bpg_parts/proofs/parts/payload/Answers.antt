-- `parts::payload` meets its contract.
use Rattle.std.proofs.Common.{◌≡◌, ◌+◌, ◌-◌, ap, arith}
use Rattle.bpg_codec.proofs.Tokens.{all-bytes}
use Rattle.bpg_format.specs.declared.record.Entry.{Entry}
use Rattle.bpg_format.specs.Parts.{range_end}
use Rattle.bpg_parts.proofs.PartLaws.{payload-inside, payload-bytes}
use Rattle.bpg_parts.proofs.parts.payload.Goals as goal

pub slice_bounds-result-end : goal.slice_bounds-result-end
slice_bounds-result-end c =
    let inside = payload-inside c.args.file.now (all-bytes c.args.file.now (λ i. omega (arith, c.type_inv.file i))) c.args.k in
    omega (arith, inside, ap (λ (x : Entry). range_end x.payload) c.entry-entry.ensures)

pub returns-clause-result_value : goal.returns-clause-result_value
returns-clause-result_value c =
    let p = c.entry-entry.result.payload in
    let n : p.start + p.length - p.start ≡ p.length = omega arith in
    payload-bytes _ _ c.entry-entry.result c.entry-entry.ensures n
