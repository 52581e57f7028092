use Rattle.bpg_head_rules.proofs.CallLaws.{pairs-head}
use Rattle.bpg_head_call.proofs.call.is_head.Goals as goal

pub returns : goal.returns
returns c = rw (c.starts_with.ensures.value, c.head_numbers.ensures) (pairs-head c.args.list.now c.args.head)
