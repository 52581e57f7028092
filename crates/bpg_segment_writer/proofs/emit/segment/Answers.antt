use Rattle.bpg_segment_writer.proofs.WriteLaws.{segment-put}
use Rattle.bpg_segment_writer.proofs.emit.segment.Goals as goal

pub returns : goal.returns
returns c =
    let p = segment-put c.args.out.now c.args.at.0 c.args.marker c.args.prefix.now c.args.payload.now c.requires.payload_bound_2
    (c.header-p.ensures.out_after, c.header-p.ensures.result_value) (c.write-q.ensures.out_after, c.write-q.ensures.result_value)
    (c.write.ensures.out_after, c.write.ensures.result_value) in
    record { out_after = p.0; result_value = p.1 }
