use Rattle.std.proofs.Common.{arith}
use Rattle.bpg_ue7.proofs.Ue7Laws.{size-most}
use Rattle.bpg_write_plan.proofs.layout.size.Goals as goal

pub returns-clause-upper_bound : goal.returns-clause-upper_bound
returns-clause-upper_bound c = omega (arith, c.size.ensures, size-most c.args.v (omega arith))
