use Rattle.std.proofs.Common.{arith}
use Rattle.bpg_codec.proofs.Tokens.{all-bytes}
use Rattle.bpg_segment_import.proofs.CopyLaws.{copied_none, copied-end, chunk_inside, copied_more}
use Rattle.bpg_segment_import.proofs.profile.copy_profile.Goals as goal

pub loop-p-init : goal.loop-p-init
loop-p-init c =
    let bytes = all-bytes c.args.run.now (λ i. omega (arith, c.type_inv.run i)) in
    (c.requires.at_bound, copied_none c.args.run.now bytes c.args.at _ c.requires.run_value c.args.out.now c.args.to.0 c.requires.run_bound)

pub slice_bounds-write-count : goal.slice_bounds-write-count
slice_bounds-write-count c =
    let bytes = all-bytes c.args.run.now (λ i. omega (arith, c.type_inv.run i)) in
    (chunk_inside c.args.run.now bytes c.args.at _ c.requires.run_value c.args.out.now c.args.to.0 c.requires.run_bound
    c.loop-p.p c.loop-p.out c.loop-p.next.0 c.loop-p.invariant.1 c.loop-p-test.true c.min-end.result c.min-end.ensures).0

pub slice_bounds-write-start : goal.slice_bounds-write-start
slice_bounds-write-start c =
    let bytes = all-bytes c.args.run.now (λ i. omega (arith, c.type_inv.run i)) in
    let inside = chunk_inside c.args.run.now bytes c.args.at _ c.requires.run_value c.args.out.now c.args.to.0 c.requires.run_bound
    c.loop-p.p c.loop-p.out c.loop-p.next.0 c.loop-p.invariant.1 c.loop-p-test.true c.min-end.result c.min-end.ensures in
    omega (arith, inside.0)

pub loop-p-preserved : goal.loop-p-preserved
loop-p-preserved c =
    let bytes = all-bytes c.args.run.now (λ i. omega (arith, c.type_inv.run i)) in
    let inside = chunk_inside c.args.run.now bytes c.args.at _ c.requires.run_value c.args.out.now c.args.to.0 c.requires.run_bound
    c.loop-p.p c.loop-p.out c.loop-p.next.0 c.loop-p.invariant.1 c.loop-p-test.true c.min-end.result c.min-end.ensures in (
      inside.1,
      copied_more c.args.run.now bytes c.args.at _ c.requires.run_value c.args.out.now c.args.to.0 c.requires.run_bound
          c.loop-p.p c.loop-p.out c.loop-p.next.0 c.loop-p.invariant.1 c.loop-p-test.true c.min-end.result c.min-end.ensures
          (c.write-next.ensures.out_after, c.write-next.ensures.result_value),
    )

pub returns : goal.returns
returns c =
    let bytes = all-bytes c.args.run.now (λ i. omega (arith, c.type_inv.run i)) in
    let p = copied-end c.args.run.now bytes c.args.at _ c.requires.run_value c.args.out.now c.args.to.0 c.requires.run_bound
    c.loop-p.p c.loop-p.out c.loop-p.next.0 c.loop-p.invariant.1 c.loop-p-test.false in
    record { out_after = p.0; result_value = p.1 }
