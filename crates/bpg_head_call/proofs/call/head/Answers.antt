use Rattle.bpg_head_rules.proofs.CallLaws.{head-read, head-refused}
use Rattle.bpg_head_call.proofs.call.head.Goals as goal

pub returns-in-Ok : goal.returns-in-Ok
returns-in-Ok c = rw c.coded.ensures (head-read _ c.in-Ok.head c.in-Ok.ensures)

pub returns-in-Err : goal.returns-in-Err
returns-in-Err c = rw c.refused.ensures (head-refused _ _ _ c.in-Err.ensures)
