use Rattle.std.proofs.Common.{ap, ◌∙◌}
use Rattle.bpg_refusal.specs.declared.Refusal.{Refusal}
use Rattle.bpg_refusal.specs.Numbers.{reason_number}
use Rattle.bpg_format.specs.Zero.{refused_written}
use Rattle.bpg_import_list.proofs.StatusLaws.{gives}
use Rattle.bpg_import_list.proofs.WriteLaws.{size-refused, record-size}
use Rattle.bpg_import_list.proofs.file.size.Goals as goal

pub returns-in-Err : goal.returns-in-Err
returns-in-Err c =
    let a = c.args in
    c.refused.ensures ∙ ap (λ (x : Refusal). refused_written (reason_number x.reason) x.offset.0) c.at.ensures
    ∙ size-refused a.numbers.now a.source.now _ c.in-Err.ensures

pub record-requires : goal.record-requires
record-requires c = let g = gives c.args.numbers.now c.in_default.ensures in record { numbers_bound = g.few; numbers_bound_2 = g.long }

pub returns : goal.returns
returns c =
    let a = c.args in
    c.size.ensures ∙ record-size a.numbers.now a.source.now c.in_default.ensures _ c.record.ensures
