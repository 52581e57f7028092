use Rattle.std.proofs.Common.{arith, ap, ◌∙◌}
use Rattle.bpg_format.specs.Zero.{refused_written}
use Rattle.bpg_refusal.specs.Numbers.{reason_number}
use Rattle.bpg_refusal.specs.declared.Refusal.{Refusal}
use Rattle.bpg_segment_rules.specs.Runs.{payloads}
use Rattle.bpg_segment_writer.proofs.RunLaws.{run-34, limits, run-20, room-exif, room-xmp, room-icc, run-0}
use Rattle.bpg_segment_writer.proofs.run.write_run.Goals as goal

pub returns-then-not-within_limits : goal.returns-then-not-within_limits
returns-then-not-within_limits c =
    let all = payloads c.args.exif.now c.args.xmp.now c.args.icc.now in
    let r = run-34 all c.args.out.now _ c.within_limits.ensures c.if-not-within_limits.true in
    record { value = c.refused.ensures ∙ ap (λ (x : Refusal). refused_written (reason_number x.reason) x.offset.0) c.at.ensures ∙ r.0; out_after = r.1 }

pub returns-then-out-count : goal.returns-then-out-count
returns-then-out-count c =
    let all = payloads c.args.exif.now c.args.xmp.now c.args.icc.now in
    let r = run-20 all c.args.out.now _ c.within_limits.ensures c.if-not-within_limits.false (omega (arith, c.if-out-count.true, c.run-count.ensures)) in
    record {
      value = c.refused-then-out-count.ensures ∙ ap (λ (x : Refusal). refused_written (reason_number x.reason) x.offset.0) c.at-then-out-count.ensures ∙ r.0;
      out_after = r.1;
    }

pub part-p-requires-clause-payload_bound_2 : goal.part-p-requires-clause-payload_bound_2
part-p-requires-clause-payload_bound_2 c =
    let all = payloads c.args.exif.now c.args.xmp.now c.args.icc.now in
    room-exif all c.args.out.now _ c.within_limits.ensures c.if-not-within_limits.false (omega (arith, c.if-out-count.false, c.run-count.ensures))

pub part-q-requires-clause-payload_bound_2 : goal.part-q-requires-clause-payload_bound_2
part-q-requires-clause-payload_bound_2 c =
    let all = payloads c.args.exif.now c.args.xmp.now c.args.icc.now in
    room-xmp all c.args.out.now _ c.within_limits.ensures c.if-not-within_limits.false (omega (arith, c.if-out-count.false, c.run-count.ensures))
    (c.part-p.ensures.out_after, c.part-p.ensures.result_value)

pub profile-requires-clause-payload_bound : goal.profile-requires-clause-payload_bound
profile-requires-clause-payload_bound c =
    let all = payloads c.args.exif.now c.args.xmp.now c.args.icc.now in
    (limits all c.args.out.now _ c.within_limits.ensures c.if-not-within_limits.false).icc

pub profile-requires-clause-payload_bound_2 : goal.profile-requires-clause-payload_bound_2
profile-requires-clause-payload_bound_2 c =
    let all = payloads c.args.exif.now c.args.xmp.now c.args.icc.now in
    room-icc all c.args.out.now _ c.within_limits.ensures c.if-not-within_limits.false (omega (arith, c.if-out-count.false, c.run-count.ensures))
    (c.part-p.ensures.out_after, c.part-p.ensures.result_value) (c.part-q.ensures.out_after, c.part-q.ensures.result_value)

pub returns : goal.returns
returns c =
    let all = payloads c.args.exif.now c.args.xmp.now c.args.icc.now in
    let r = run-0 all c.args.out.now _ c.within_limits.ensures c.if-not-within_limits.false (omega (arith, c.if-out-count.false, c.run-count.ensures))
    (c.part-p.ensures.out_after, c.part-p.ensures.result_value) (c.part-q.ensures.out_after, c.part-q.ensures.result_value) _ c.run-count.ensures
    (c.profile.ensures.out_after, c.profile.ensures.result_value) in
    record { value = c.of.ensures ∙ r.0; out_after = r.1 }
