use Rattle.std.proofs.Common.{arith, ap}
use Rattle.bpg_sample_rules.specs.Rules.{max_sample}
use Rattle.bpg_sample_check.proofs.DepthLaws.{shifted}
use Rattle.bpg_sample_check.proofs.numbers.max_sample.Goals as goal

pub returns : goal.returns
returns c = omega (arith, shifted c.min-bits.result (omega arith), ap max_sample c.min-bits.ensures)
