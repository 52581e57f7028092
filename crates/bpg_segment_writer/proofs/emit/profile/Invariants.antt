use Rattle.bpg_segment_writer.proofs.WriteLaws.{Chunked}
use Rattle.bpg_segment_writer.proofs.emit.profile.Given as goal

-- the chunks so far are written
abbrev pub invariant-loop-k : goal.invariant-loop-k
invariant-loop-k l = Chunked l.payload l.total l.initial.out l.initial.next.0 l.out l.next.0 l.k
