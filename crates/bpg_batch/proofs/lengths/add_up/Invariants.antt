use Rattle.bpg_batch.proofs.SumLaws.{Left}
use Rattle.bpg_batch.proofs.lengths.add_up.Given as goal

abbrev pub invariant-loop-length : goal.invariant-loop-length
invariant-loop-length l = Left l.lengths l.size l.left l.length-index
