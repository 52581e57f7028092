-- A unit that breaks a rule, one that is refused, the last one, and one more.
use Rattle.std.proofs.Common.{arith, ◌∙◌}
use Rattle.bpg_nal_scan.proofs.ScanLaws.{says-broken, says-kept}
use Rattle.bpg_frame_units.proofs.CountLaws.{count_past, count-broken, count_kept, count-span, count-refused, count-last, count-more}
use Rattle.bpg_frame_units.proofs.count.count_frames.Goals as goal

pub returns-then-file-data : goal.returns-then-file-data
returns-then-file-data c = rw c.at.ensures (count_past _ _ _ c.if-file-data.true)

pub returns-in_default : goal.returns-in_default
returns-in_default c = rw c.at-in_default.ensures (count-broken c.loop-cut.invariant (says-broken _ _ c.in_default.ensures))

pub slice_bounds-unit-count : goal.slice_bounds-unit-count
slice_bounds-unit-count c = (count-span c.loop-cut.invariant _ (says-kept _ _ _ c.in-Some.ensures).1).0

pub slice_bounds-unit-start : goal.slice_bounds-unit-start
slice_bounds-unit-start c = (count-span c.loop-cut.invariant _ (says-kept _ _ _ c.in-Some.ensures).1).0

pub slice_bounds-unit-end : goal.slice_bounds-unit-end
slice_bounds-unit-end c = (count-span c.loop-cut.invariant _ (says-kept _ _ _ c.in-Some.ensures).1).1

pub judge-requires : goal.judge-requires
judge-requires c =
    let k = says-kept _ _ _ c.in-Some.ensures in
    count_kept c.loop-cut.invariant _ k.1 k.0

pub returns-in-Err : goal.returns-in-Err
returns-in-Err c =
    let k = says-kept _ _ _ c.in-Some.ensures in
    let r = c.in-Err.ensures in
    rw c.at-in-Err.ensures (count-refused c.loop-cut.invariant _ k.1 _ (rw c.is_some.ensures at r))

pub returns-then-file-cut : goal.returns-then-file-cut
returns-then-file-cut c =
    let k = says-kept _ _ _ c.in-Some.ensures in
    let r = c.in-Ok.ensures in
    c.end.ensures ∙ count-last c.loop-cut.invariant _ k.1 _ (rw c.is_some.ensures at r) _ (rw c.from-found.ensures) _ c.wait_after-wait.ensures c.if-file-cut.true

pub loop-cut-smaller : goal.loop-cut-smaller
loop-cut-smaller c = omega (arith, c.if-file-cut.false, count-span c.loop-cut.invariant _ (says-kept _ _ _ c.in-Some.ensures).1)

pub loop-cut-preserved : goal.loop-cut-preserved
loop-cut-preserved c =
    let k = says-kept _ _ _ c.in-Some.ensures in
    let r = c.in-Ok.ensures in
    count-more c.loop-cut.invariant _ k.1 _ (rw c.is_some.ensures at r) _ (rw c.from-found.ensures) _ c.wait_after-wait.ensures c.if-file-cut.false
