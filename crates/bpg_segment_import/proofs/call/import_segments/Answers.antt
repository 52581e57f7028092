use Rattle.std.proofs.Common.{arith, ap, ◌∙◌}
use Rattle.bpg_codec.proofs.Tokens.{all-bytes}
use Rattle.bpg_refusal.specs.Numbers.{reason_number}
use Rattle.bpg_refusal.specs.declared.Refusal.{Refusal}
use Rattle.bpg_segment_rules.specs.Calls.{refused_import}
use Rattle.bpg_segment_import.proofs.CallLaws.{import-36, no_longer, import-20, room-icc, import-0}
use Rattle.bpg_segment_import.proofs.call.import_segments.Goals as goal

pub returns-in_default : goal.returns-in_default
returns-in_default c =
    let a = import-36 c.args.run.now c.args.out.now c.in_default.ensures in
    record { value = c.refused.ensures ∙ ap (λ (x : Refusal). refused_import (reason_number x.reason) x.offset.0) c.at.ensures ∙ a.0; out_after = a.1 }

pub overflow_add-exif-2 : goal.overflow_add-exif-2
overflow_add-exif-2 c =
    let bytes = all-bytes c.args.run.now (λ i. omega (arith, c.type_inv.run i)) in
    let n = no_longer c.args.run.now c.args.out.now c.in-Some.found c.in-Some.ensures bytes _ _ c.bytes-exif.ensures c.bytes-xmp.ensures in
    omega (arith, n)

pub returns-then-out-exif : goal.returns-then-out-exif
returns-then-out-exif c =
    let bytes = all-bytes c.args.run.now (λ i. omega (arith, c.type_inv.run i)) in
    let a = import-20 c.args.run.now c.args.out.now c.in-Some.found c.in-Some.ensures bytes _ _ c.bytes-exif.ensures c.bytes-xmp.ensures c.if-out-exif.true in
    record {
      value = c.refused-then-out-exif.ensures ∙ ap (λ (x : Refusal). refused_import (reason_number x.reason) x.offset.0) c.at-then-out-exif.ensures ∙ a.0;
      out_after = a.1;
    }

pub copy_profile-requires-clause-run_bound : goal.copy_profile-requires-clause-run_bound
copy_profile-requires-clause-run_bound c =
    let bytes = all-bytes c.args.run.now (λ i. omega (arith, c.type_inv.run i)) in
    room-icc c.args.run.now c.args.out.now c.in-Some.found c.in-Some.ensures bytes _ _ c.bytes-exif.ensures c.bytes-xmp.ensures c.if-out-exif.false
    (c.write-p.ensures.out_after, c.write-p.ensures.result_value) (c.write-q.ensures.out_after, c.write-q.ensures.result_value)

pub returns : goal.returns
returns c =
    let bytes = all-bytes c.args.run.now (λ i. omega (arith, c.type_inv.run i)) in
    let a = import-0 c.args.run.now c.args.out.now c.in-Some.found c.in-Some.ensures bytes _ _ c.bytes-exif.ensures c.bytes-xmp.ensures c.if-out-exif.false
    (c.write-p.ensures.out_after, c.write-p.ensures.result_value) (c.write-q.ensures.out_after, c.write-q.ensures.result_value)
    (c.copy_profile.ensures.out_after, c.copy_profile.ensures.result_value) in
    record { value = a.0; out_after = a.1 }
