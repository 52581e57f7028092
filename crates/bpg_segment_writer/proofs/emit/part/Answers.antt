use Rattle.std.proofs.Common.{sym}
use borrow.Author.Tests.{eqb-true, eqb-false}
use Rattle.bpg_segment_writer.proofs.WriteLaws.{part-put-none, part-fits, part-put-some}
use Rattle.bpg_segment_writer.proofs.emit.part.Goals as goal

pub returns-then-is_empty : goal.returns-then-is_empty
returns-then-is_empty c =
    let p = part-put-none c.args.out.now c.args.at.0 c.args.marker c.args.prefix.now c.args.payload.now (eqb-true _ _ (sym c.if-is_empty.ensures)) c.requires.payload_bound_2 in
    record { out_after = p.0; result_value = p.1 }

pub segment-requires-clause-payload_bound_2 : goal.segment-requires-clause-payload_bound_2
segment-requires-clause-payload_bound_2 c =
    part-fits c.args.out.now c.args.at.0 c.args.marker c.args.prefix.now c.args.payload.now (eqb-false _ _ (sym c.if-is_empty.ensures)) c.requires.payload_bound_2

pub returns : goal.returns
returns c =
    let p = part-put-some c.args.out.now c.args.at.0 c.args.marker c.args.prefix.now c.args.payload.now (eqb-false _ _ (sym c.if-is_empty.ensures))
    (c.segment.ensures.out_after, c.segment.ensures.result_value) in
    record { out_after = p.0; result_value = p.1 }
