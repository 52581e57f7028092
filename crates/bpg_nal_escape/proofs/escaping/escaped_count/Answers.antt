use Rattle.std.proofs.Common.{length, arith}
use Rattle.bpg_nal_emulation.specs.Emulation.{escape}
use Rattle.bpg_nal_emulation.proofs.OffsetLaws.{room, es-count-last, es-count-on}
use Rattle.bpg_nal_escape.proofs.escaping.escaped_count.Goals as goal

pub returns-then-bytes-at : goal.returns-then-bytes-at
returns-then-bytes-at c =
    let l = c.loop-marks in
    let u = c.args.bytes.now in
    rw c.from.ensures
    (es-count-last u l.i _ l.invariant.0 c.next-at.ensures (length (escape u)) l.marks c.if-bytes-at.true l.invariant.2 _ c.ends_open.ensures)

pub loop-marks-preserved : goal.loop-marks-preserved
loop-marks-preserved c =
    let l = c.loop-marks in
    let u = c.args.bytes.now in
    let r = room u l.i _ l.invariant.0 c.next-at.ensures c.if-bytes-at.false in
    (omega arith, omega arith, es-count-on u l.i _ l.invariant.0 c.next-at.ensures (length (escape u)) l.marks c.if-bytes-at.false l.invariant.2)
