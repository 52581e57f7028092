use Rattle.bpg_batch.proofs.EachLaws.{ReadSoFar}
use Rattle.bpg_batch.proofs.each.read_each.Given as goal

abbrev pub invariant-loop-k : goal.invariant-loop-k
invariant-loop-k l = ReadSoFar l.buffer l.lengths l.statuses l.offsets l.start l.k
