use Rattle.std.proofs.Common.{◌≤◌, length}
use Rattle.bpg_segment_reader.proofs.ChunkLaws.{Walked}
use Rattle.bpg_segment_reader.proofs.chunks.judge_chunks.Given as goal

-- what is left of the chunks decides
abbrev pub invariant-loop-k : goal.invariant-loop-k
invariant-loop-k l = (l.p ≤ length l.run) × (l.length ≤ l.p) × Walked l.run l.total l.at l.p l.length l.k
