-- The elements so far are the part's.
use Rattle.bpg_codec.proofs.Copying.{Copied}
use Rattle.bpg_bytes.proofs.buffer.put.Given as goal

abbrev pub invariant-loop-i : goal.invariant-loop-i
invariant-loop-i g l = Copied l.part l.to-items l.i
