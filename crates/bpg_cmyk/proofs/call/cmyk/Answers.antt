-- What was judged is what each plane's loop requires.
use Rattle.std.proofs.Common.{arith}
use Rattle.bpg_sample_check.proofs.CallLaws.{kept, stored, accepted, max_of}
use Rattle.bpg_cmyk.proofs.call.cmyk.Goals as goal

pub returns-in-Err-clause-cyan_after : goal.returns-in-Err-clause-cyan_after
returns-in-Err-clause-cyan_after c = kept _ _ _ c.in-Err.ensures c.refused.ensures _ _

pub returns-in-Err-clause-magenta_after : goal.returns-in-Err-clause-magenta_after
returns-in-Err-clause-magenta_after c = kept _ _ _ c.in-Err.ensures c.refused.ensures _ _

pub returns-in-Err-clause-yellow_after : goal.returns-in-Err-clause-yellow_after
returns-in-Err-clause-yellow_after c = kept _ _ _ c.in-Err.ensures c.refused.ensures _ _

pub returns-in-Err-clause-black_after : goal.returns-in-Err-clause-black_after
returns-in-Err-clause-black_after c = kept _ _ _ c.in-Err.ensures c.refused.ensures _ _

pub complement_plane-requires : goal.complement_plane-requires
complement_plane-requires c =
    let a = accepted _ _ _ c.in-Ok.ensures in
    let m = max_of a.high c.max_sample-m.ensures in
    (omega arith, omega arith)

pub complement_plane-requires-2 : goal.complement_plane-requires-2
complement_plane-requires-2 c =
    let a = accepted _ _ _ c.in-Ok.ensures in
    let m = max_of a.high c.max_sample-m.ensures in
    (omega arith, omega arith)

pub complement_plane-requires-3 : goal.complement_plane-requires-3
complement_plane-requires-3 c =
    let a = accepted _ _ _ c.in-Ok.ensures in
    let m = max_of a.high c.max_sample-m.ensures in
    (omega arith, omega arith)

pub complement_plane-requires-4 : goal.complement_plane-requires-4
complement_plane-requires-4 c =
    let a = accepted _ _ _ c.in-Ok.ensures in
    let m = max_of a.high c.max_sample-m.ensures in
    (omega arith, omega arith)

pub returns-clause-cyan_after : goal.returns-clause-cyan_after
returns-clause-cyan_after c =
    let a = accepted _ _ _ c.in-Ok.ensures in
    let m = max_of a.high c.max_sample-m.ensures in
    stored c.of.ensures (rw (← m) c.complement_plane.ensures) _

pub returns-clause-magenta_after : goal.returns-clause-magenta_after
returns-clause-magenta_after c =
    let a = accepted _ _ _ c.in-Ok.ensures in
    let m = max_of a.high c.max_sample-m.ensures in
    stored c.of.ensures (rw (← m) c.complement_plane-2.ensures) _

pub returns-clause-yellow_after : goal.returns-clause-yellow_after
returns-clause-yellow_after c =
    let a = accepted _ _ _ c.in-Ok.ensures in
    let m = max_of a.high c.max_sample-m.ensures in
    stored c.of.ensures (rw (← m) c.complement_plane-3.ensures) _

pub returns-clause-black_after : goal.returns-clause-black_after
returns-clause-black_after c =
    let a = accepted _ _ _ c.in-Ok.ensures in
    let m = max_of a.high c.max_sample-m.ensures in
    stored c.of.ensures (rw (← m) c.complement_plane-4.ensures) _
