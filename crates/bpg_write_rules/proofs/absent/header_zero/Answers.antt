use mathlib.Core.Bool.{and_assoc}
use Rattle.bpg_format.specs.Write.{header_zero}
use Rattle.bpg_write_rules.proofs.absent.header_zero.Goals as goal

pub returns : goal.returns
unfolding header_zero
returns c = rw c.absent_zero.ensures (simp and_assoc)
