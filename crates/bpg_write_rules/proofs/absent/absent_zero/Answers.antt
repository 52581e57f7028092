use Rattle.bpg_format.specs.Write.{absent_zero}
use Rattle.bpg_write_rules.proofs.absent.absent_zero.Goals as goal

pub returns : goal.returns
unfolding absent_zero
returns c = cc
