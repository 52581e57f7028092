-- What was judged is what the planes' loop requires.
use Rattle.std.proofs.Common.{arith}
use Rattle.bpg_sample_rules.proofs.Depths.{max-high}
use Rattle.bpg_sample_check.proofs.CallLaws.{kept, stored, accepted, max_of}
use Rattle.bpg_unpremultiply.proofs.call.unpremultiply.Goals as goal

pub returns-in-Err-clause-red_after : goal.returns-in-Err-clause-red_after
returns-in-Err-clause-red_after c = kept _ _ _ c.in-Err.ensures c.refused.ensures _ _

pub returns-in-Err-clause-green_after : goal.returns-in-Err-clause-green_after
returns-in-Err-clause-green_after c = kept _ _ _ c.in-Err.ensures c.refused.ensures _ _

pub returns-in-Err-clause-blue_after : goal.returns-in-Err-clause-blue_after
returns-in-Err-clause-blue_after c = kept _ _ _ c.in-Err.ensures c.refused.ensures _ _

pub convert_planes-requires : goal.convert_planes-requires
convert_planes-requires c =
    let a = accepted _ _ _ c.in-Ok.ensures in
    let m = max_of a.high c.max_sample.ensures in
    record {
      m-high = omega (arith, max-high c.args.depth a.high);
      a-samples = omega arith;
      r-length = omega arith;
      g-length = omega arith;
      b-length = omega arith;
      red-length = omega arith;
      green-length = omega arith;
      blue-length = omega arith;
    }

pub returns-clause-red_after : goal.returns-clause-red_after
returns-clause-red_after c =
    let a = accepted _ _ _ c.in-Ok.ensures in
    let m = max_of a.high c.max_sample.ensures in
    stored c.of.ensures (rw (← m) c.convert_planes.ensures.red_after) _

pub returns-clause-green_after : goal.returns-clause-green_after
returns-clause-green_after c =
    let a = accepted _ _ _ c.in-Ok.ensures in
    let m = max_of a.high c.max_sample.ensures in
    stored c.of.ensures (rw (← m) c.convert_planes.ensures.green_after) _

pub returns-clause-blue_after : goal.returns-clause-blue_after
returns-clause-blue_after c =
    let a = accepted _ _ _ c.in-Ok.ensures in
    let m = max_of a.high c.max_sample.ensures in
    stored c.of.ensures (rw (← m) c.convert_planes.ensures.blue_after) _
