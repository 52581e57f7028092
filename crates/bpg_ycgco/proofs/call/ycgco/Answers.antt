-- What was judged is what the planes' loop requires.
use Rattle.std.proofs.Common.{arith}
use Rattle.bpg_sample_check.proofs.CallLaws.{kept, stored, accepted, max_of}
use Rattle.bpg_ycgco.proofs.call.ycgco.Goals as goal

pub returns-in-Err-clause-red_after : goal.returns-in-Err-clause-red_after
returns-in-Err-clause-red_after c = kept _ _ _ c.in-Err.ensures c.refused.ensures _ _

pub returns-in-Err-clause-green_after : goal.returns-in-Err-clause-green_after
returns-in-Err-clause-green_after c = kept _ _ _ c.in-Err.ensures c.refused.ensures _ _

pub returns-in-Err-clause-blue_after : goal.returns-in-Err-clause-blue_after
returns-in-Err-clause-blue_after c = kept _ _ _ c.in-Err.ensures c.refused.ensures _ _

pub convert_planes-requires : goal.convert_planes-requires
convert_planes-requires c =
    let a = accepted _ _ _ c.in-Ok.ensures in
    let m = max_of a.high c.max_sample.ensures in
    record {
      low = a.low;
      high = a.high;
      m-is = m;
      cg-length = omega arith;
      co-length = omega arith;
      red-length = omega arith;
      green-length = omega arith;
      blue-length = omega arith;
      y-samples = omega arith;
      cg-samples = omega arith;
      co-samples = omega arith;
    }

pub returns-clause-red_after : goal.returns-clause-red_after
returns-clause-red_after c = stored c.of.ensures c.convert_planes.ensures.red_after _

pub returns-clause-green_after : goal.returns-clause-green_after
returns-clause-green_after c = stored c.of.ensures c.convert_planes.ensures.green_after _

pub returns-clause-blue_after : goal.returns-clause-blue_after
returns-clause-blue_after c = stored c.of.ensures c.convert_planes.ensures.blue_after _
