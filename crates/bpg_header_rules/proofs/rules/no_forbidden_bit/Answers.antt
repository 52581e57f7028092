-- `rules::no_forbidden_bit` meets its contract.
use mathlib.Core.Bool.{and_assoc}
use Rattle.bpg_format.specs.Tests.{no_forbidden_bit}
use Rattle.bpg_header_rules.proofs.rules.no_forbidden_bit.Goals as goal

pub returns : goal.returns
unfolding no_forbidden_bit
returns c = simp and_assoc
