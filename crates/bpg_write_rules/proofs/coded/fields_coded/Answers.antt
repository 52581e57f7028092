use mathlib.Core.Bool.{and_assoc}
use Rattle.bpg_format.specs.Write.{fields_coded}
use Rattle.bpg_write_rules.proofs.coded.fields_coded.Goals as goal

pub returns : goal.returns
unfolding fields_coded
returns c = simp and_assoc
