use Rattle.std.proofs.Common.{arith}
use Rattle.bpg_batch.proofs.SumLaws.{too_long, next-taken, all-taken}
use Rattle.bpg_batch.proofs.lengths.add_up.Goals as goal

pub returns-then-left-length : goal.returns-then-left-length
returns-then-left-length c = too_long _ _ _ _ c.loop-length.invariant (omega arith) (omega arith)

pub loop-length-preserved : goal.loop-length-preserved
loop-length-preserved c = next-taken _ _ _ _ c.loop-length.invariant (omega arith) (omega arith)

pub returns : goal.returns
returns c = all-taken _ _ _ _ c.loop-length.invariant (omega arith)
