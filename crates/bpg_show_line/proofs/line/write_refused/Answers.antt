use Rattle.bpg_show_line.specs.Line.{refused_line}
use Rattle.bpg_show_line.proofs.LineBufferLaws.{writes}
use Rattle.bpg_show_line.proofs.LineLaws.{length-refused}
use Rattle.bpg_show_line.proofs.line.write_refused.Goals as goal

pub write-requires : goal.write-requires
write-requires c = rw c.refused.ensures (length-refused _ _ c.ranges.status.fits c.ranges.offset.fits)

pub returns : goal.returns
returns c =
    let a = c.args in
    let w = writes a.out.now _ _ _ (refused_line a.status a.offset) c.refused.ensures (c.write.ensures.out_after, c.write.ensures.value) in
    record { out_after = w.0; value = w.1 }
