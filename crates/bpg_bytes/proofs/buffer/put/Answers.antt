-- What is lent of the buffer comes back with the part in it.
use Rattle.std.proofs.Common.{◌<◌, ◌+◌, length, length-take, length-drop, arith}
use Rattle.bpg_codec.proofs.Buffer.{refused}
use Rattle.bpg_codec.proofs.Copying.{copy-begins, copy-next, copy-ends, part-written}
use Rattle.bpg_bytes.proofs.buffer.put.Goals as goal
use Rattle.bpg_bytes.proofs.buffer.put.Goals.{then-out-at-via-then-out-at, then-out-at-via-else-out-at+then-out-at-2}

pub returns-then-out-at : goal.returns-then-out-at
returns-then-out-at g c =
    let a = c.args in
    let n : length a.out.now < a.at + length a.part.now =
    elim c.then-out-at.branch [ then-out-at-via-then-out-at w ↦ omega arith | then-out-at-via-else-out-at+then-out-at-2 w ↦ omega arith ] in
    let r = refused a.out.now a.at a.part.now n in
    record { out_after = r.0; result_value = r.1 }

pub loop-i-init : goal.loop-i-init
loop-i-init g c = copy-begins _ _ (simp (length-take, length-drop) (omega arith))

pub loop-i-preserved : goal.loop-i-preserved
loop-i-preserved g c =
    let l = c.loop-i in
    rw c.index-part-i.is (copy-next _ l.to-items l.i c.index-part-i.result l.invariant (omega arith))

pub returns : goal.returns
returns g c =
    let a = c.args in
    let l = c.loop-i in
    let r = part-written a.out.now _ a.part.now a.at (copy-ends _ _ l.i l.invariant (omega arith)) (omega arith) in
    record { out_after = r.0; result_value = r.1 }
