use Rattle.bpg_show_line.specs.Line.{accepted_line}
use Rattle.bpg_show_line.proofs.LineBufferLaws.{writes}
use Rattle.bpg_show_line.proofs.LineLaws.{line-accepted, line_refused, Printable, printable, length-accepted}
use Rattle.bpg_show_line.proofs.line.write.Goals as goal

pub returns-then-reading-ne0 : goal.returns-then-reading-ne0
returns-then-reading-ne0 c = rw (line_refused c.args.reading c.if-reading-ne0.true) c.write_refused.ensures

pub write-requires : goal.write-requires
write-requires c =
    let p : Printable c.args.reading.«record» = search printable in
    rw c.accepted.ensures (length-accepted c.args.reading.«record» p)

pub returns : goal.returns
returns c =
    let a = c.args in
    let w = writes a.out.now _ _ _ (accepted_line a.reading.«record») c.accepted.ensures (c.write.ensures.out_after, c.write.ensures.value) in
    rw (line-accepted a.reading c.if-reading-ne0.false) (record { out_after = w.0; value = w.1 })
