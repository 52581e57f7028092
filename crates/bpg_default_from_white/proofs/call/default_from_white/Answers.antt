-- What was judged is what each plane's loop requires.
use Rattle.std.proofs.Common.{arith}
use Rattle.bpg_sample_check.proofs.CallLaws.{kept, stored, accepted, max_of}
use Rattle.bpg_default_from_white.proofs.call.default_from_white.Goals as goal

pub returns-in-Err-clause-red_after : goal.returns-in-Err-clause-red_after
returns-in-Err-clause-red_after c = kept _ _ _ c.in-Err.ensures c.refused.ensures _ _

pub returns-in-Err-clause-green_after : goal.returns-in-Err-clause-green_after
returns-in-Err-clause-green_after c = kept _ _ _ c.in-Err.ensures c.refused.ensures _ _

pub returns-in-Err-clause-blue_after : goal.returns-in-Err-clause-blue_after
returns-in-Err-clause-blue_after c = kept _ _ _ c.in-Err.ensures c.refused.ensures _ _

pub white_plane-requires : goal.white_plane-requires
white_plane-requires c =
    let a = accepted _ _ _ c.in-Ok.ensures in
    let m = max_of a.high c.max_sample-m.ensures in
    record {
      le_depth = (a.low, a.high, m);
      out_len = (omega arith, omega arith, omega arith, omega arith);
    }

pub white_plane-requires-2 : goal.white_plane-requires-2
white_plane-requires-2 c =
    let a = accepted _ _ _ c.in-Ok.ensures in
    let m = max_of a.high c.max_sample-m.ensures in
    record {
      le_depth = (a.low, a.high, m);
      out_len = (omega arith, omega arith, omega arith, omega arith);
    }

pub white_plane-requires-3 : goal.white_plane-requires-3
white_plane-requires-3 c =
    let a = accepted _ _ _ c.in-Ok.ensures in
    let m = max_of a.high c.max_sample-m.ensures in
    record {
      le_depth = (a.low, a.high, m);
      out_len = (omega arith, omega arith, omega arith, omega arith);
    }

pub returns-clause-red_after : goal.returns-clause-red_after
returns-clause-red_after c = stored c.of.ensures c.white_plane.ensures _

pub returns-clause-green_after : goal.returns-clause-green_after
returns-clause-green_after c = stored c.of.ensures c.white_plane-2.ensures _

pub returns-clause-blue_after : goal.returns-clause-blue_after
returns-clause-blue_after c = stored c.of.ensures c.white_plane-3.ensures _
