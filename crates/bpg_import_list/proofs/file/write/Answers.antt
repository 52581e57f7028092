use Rattle.std.proofs.Common.{ap, ◌∙◌}
use Rattle.bpg_refusal.specs.declared.Refusal.{Refusal}
use Rattle.bpg_refusal.specs.Numbers.{reason_number}
use Rattle.bpg_format.specs.Zero.{refused_written}
use Rattle.bpg_import_list.proofs.StatusLaws.{gives}
use Rattle.bpg_import_list.proofs.WriteLaws.{list-refused, as-record}
use Rattle.bpg_import_list.proofs.file.write.Goals as goal

pub returns-in-Err : goal.returns-in-Err
returns-in-Err c =
    let a = c.args in
    let r = list-refused a.numbers.now a.source.now a.out.now _ c.in-Err.ensures in
    record {
      value = c.refused.ensures ∙ ap (λ (x : Refusal). refused_written (reason_number x.reason) x.offset.0) c.at.ensures ∙ r.0;
      out_after = r.1;
    }

pub record-requires : goal.record-requires
record-requires c = let g = gives c.args.numbers.now c.in_default.ensures in record { numbers_bound = g.few; numbers_bound_2 = g.long }

pub returns : goal.returns
returns c =
    let a = c.args in
    let r = as-record a.numbers.now a.source.now a.out.now c.in_default.ensures _ c.record.ensures _ _ c.write.ensures.value c.write.ensures.out_after in
    record { value = r.0; out_after = r.1 }
