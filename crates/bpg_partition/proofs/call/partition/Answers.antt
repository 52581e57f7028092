use Rattle.std.proofs.Common.{arith}
use mathlib.Core.Path.{sym}
use lib.Seq.{length-take-le}
use Rattle.bpg_read_survey.proofs.FileRead.{short, data-inside}
use Rattle.bpg_read_survey.proofs.Walking.{begins, end-inside, entry_reads}
use Rattle.bpg_partition.proofs.PayloadLaws.{none-counted, next-counted, all-counted}
use Rattle.bpg_partition.proofs.CallLaws.{file_read, head-read, partition-err, payloads-within, block-before, partition-is}
use Rattle.bpg_partition.proofs.call.partition.Goals as goal

pub returns-in-Err : goal.returns-in-Err
returns-in-Err c = rw c.refused.ensures (partition-err c.args.file.now c.survey-found.result c.survey-found.ensures c.in-Err.refusal c.in-Err.is)

pub unwrap-head-requires : goal.unwrap-head-requires
unwrap-head-requires c = head-read c.args.file.now c.survey-found.result c.survey-found.ensures c.in-Ok.rest c.in-Ok.is

pub overflow_add-block_end : goal.overflow_add-block_end
overflow_add-block_end c =
    let w = file_read c.args.file.now (λ i. omega (arith, c.type_inv.file i)) c.survey-found.result c.survey-found.ensures c.in-Ok.rest c.in-Ok.is c.unwrap-head.result c.unwrap-head.ensures in
    omega (arith, end-inside w, short w)

pub loop-init : goal.loop-init
loop-init c =
    let w = file_read c.args.file.now (λ i. omega (arith, c.type_inv.file i)) c.survey-found.result c.survey-found.ensures c.in-Ok.rest c.in-Ok.is c.unwrap-head.result c.unwrap-head.ensures in
    none-counted (begins w)

pub slice_bounds-read_checked-end : goal.slice_bounds-read_checked-end
slice_bounds-read_checked-end c =
    let w = file_read c.args.file.now (λ i. omega (arith, c.type_inv.file i)) c.survey-found.result c.survey-found.ensures c.in-Ok.rest c.in-Ok.is c.unwrap-head.result c.unwrap-head.ensures in
    sym (length-take-le _ c.args.file.now (end-inside w))

pub unwrap-step-requires : goal.unwrap-step-requires
unwrap-step-requires c = entry_reads c.loop.invariant.walking c.loop-test.true c.read_checked.result c.read_checked.ensures

pub overflow_add-payloads : goal.overflow_add-payloads
overflow_add-payloads c =
    let n = next-counted c.loop.invariant c.loop-test.true c.read_checked.result c.read_checked.ensures c.unwrap-step.result c.unwrap-step.ensures in
    omega (arith, n.most, n.walking.most, n.walking.few)

pub loop-preserved : goal.loop-preserved
loop-preserved c = next-counted c.loop.invariant c.loop-test.true c.read_checked.result c.read_checked.ensures c.unwrap-step.result c.unwrap-step.ensures

pub overflow_sub-result : goal.overflow_sub-result
overflow_sub-result c =
    let w = file_read c.args.file.now (λ i. omega (arith, c.type_inv.file i)) c.survey-found.result c.survey-found.ensures c.in-Ok.rest c.in-Ok.is c.unwrap-head.result c.unwrap-head.ensures in
    payloads-within w _ (all-counted c.loop.invariant (omega arith) w.content w.read)

pub overflow_sub-result-2 : goal.overflow_sub-result-2
overflow_sub-result-2 c =
    let w = file_read c.args.file.now (λ i. omega (arith, c.type_inv.file i)) c.survey-found.result c.survey-found.ensures c.in-Ok.rest c.in-Ok.is c.unwrap-head.result c.unwrap-head.ensures in
    block-before w _ (all-counted c.loop.invariant (omega arith) w.content w.read)

pub overflow_sub-result-3 : goal.overflow_sub-result-3
overflow_sub-result-3 c =
    let w = file_read c.args.file.now (λ i. omega (arith, c.type_inv.file i)) c.survey-found.result c.survey-found.ensures c.in-Ok.rest c.in-Ok.is c.unwrap-head.result c.unwrap-head.ensures in
    data-inside w

pub returns : goal.returns
returns c =
    let w = file_read c.args.file.now (λ i. omega (arith, c.type_inv.file i)) c.survey-found.result c.survey-found.ensures c.in-Ok.rest c.in-Ok.is c.unwrap-head.result c.unwrap-head.ensures in
    partition-is w _ (all-counted c.loop.invariant (omega arith) w.content w.read)
