use Rattle.std.proofs.Common.{sym}
use Rattle.bpg_codec.proofs.Select.{select-true, select-false}
use Rattle.bpg_write_plan.proofs.layout.data_length.Goals as goal

pub returns-then-explicit : goal.returns-then-explicit
returns-then-explicit c = sym (select-true _ _ c.if-explicit.true)

pub returns-else-explicit : goal.returns-else-explicit
returns-else-explicit c = sym (select-false _ _ c.if-explicit.false)
