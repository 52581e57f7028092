-- The count so far and the groups that are left make up the length.
use Rattle.std.proofs.Common.{◌≡◌, ◌+◌, length}
use Rattle.bpg_ue7.specs.Ue7.{ue7_bytes}
use Rattle.bpg_ue7.proofs.Ue7Laws.{high}
use Rattle.bpg_write_ue7.proofs.ue7.size.Given as goal

abbrev pub invariant-loop-left : goal.invariant-loop-left
invariant-loop-left l = l.count + length (high l.left) ≡ length (ue7_bytes l.v)

abbrev pub decreases-loop-left : goal.decreases-loop-left
decreases-loop-left l = l.left
