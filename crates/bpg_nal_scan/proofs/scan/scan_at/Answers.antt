use Rattle.std.proofs.Common.{sym, ◌∙◌, arith}
use Rattle.bpg_nal_scan.proofs.ScanLaws.{room-there, scan-last, scan-ended, scan-high, scan-on}
use Rattle.bpg_nal_scan.proofs.scan.scan_at.Goals as goal

pub returns-then-end-at : goal.returns-then-end-at
returns-then-end-at c =
    scan-last _ c.loop-from.from.0 _ c.next-at.ensures c.if-end-at.true _ c.trimmed.ensures ∙ sym c.loop-from.invariant

pub bounds-region-at : goal.bounds-region-at
bounds-region-at c = omega (arith, room-there _ _ _ c.next-at.ensures c.if-end-at.false)

pub ended-requires : goal.ended-requires
ended-requires c = omega (arith, room-there _ _ _ c.next-at.ensures c.if-end-at.false)

pub returns-then-region-at-ne3 : goal.returns-then-region-at-ne3
returns-then-region-at-ne3 c =
    c.ended.ensures ∙ scan-ended _ _ _ c.next-at.ensures c.if-end-at.false c.if-region-at-ne3.true ∙ sym c.loop-from.invariant

pub returns-then-byte_at-gt3 : goal.returns-then-byte_at-gt3
returns-then-byte_at-gt3 c =
    let next = rw c.byte_at.ensures at c.if-byte_at-gt3.true in
    scan-high _ _ _ c.next-at.ensures c.if-end-at.false c.if-region-at-ne3.false next ∙ sym c.loop-from.invariant

pub loop-from-preserved : goal.loop-from-preserved
loop-from-preserved c =
    let next = rw c.byte_at.ensures at c.if-byte_at-gt3.false in
    c.loop-from.invariant ∙ scan-on _ _ _ c.next-at.ensures c.if-end-at.false c.if-region-at-ne3.false next
