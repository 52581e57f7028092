use Rattle.std.proofs.Common.{arith}
use Rattle.bpg_nal_escape.proofs.BufferLaws.{end_is, end-inside, one_more}
use Rattle.bpg_nal_escape.proofs.escaping.put_marked.Goals as goal

pub bounds-out-mark : goal.bounds-out-mark
bounds-out-mark c = end-inside _ _ _ _ _ 3 c.requires c.write-mark.ensures.out_after c.write-mark.ensures.result_value

pub overflow_add-result : goal.overflow_add-result
overflow_add-result c =
    let e = end_is _ _ _ _ _ 3 c.requires c.write-mark.ensures.out_after c.write-mark.ensures.result_value in omega arith

pub returns-clause-out_after : goal.returns-clause-out_after
returns-clause-out_after c = one_more _ _ _ _ _ 3 c.requires c.write-mark.ensures.out_after c.write-mark.ensures.result_value

pub returns-clause-result_value : goal.returns-clause-result_value
returns-clause-result_value c =
    let e = end_is _ _ _ _ _ 3 c.requires c.write-mark.ensures.out_after c.write-mark.ensures.result_value in omega arith
