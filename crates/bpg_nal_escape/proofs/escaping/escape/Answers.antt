use Rattle.std.proofs.Common.{◌∙◌, arith}
use Rattle.bpg_nal_escape.proofs.CallLaws.{es-counted, es-small, es-done}
use Rattle.bpg_nal_escape.proofs.escaping.escape.Goals as goal

pub returns-then-out-count : goal.returns-then-out-count
returns-then-out-count c =
    let r = es-small c.args.bytes.now c.args.out.now _ c.escaped_count-count.ensures c.if-out-count.true in
    record { value = rw c.at.ensures at c.refused.ensures ∙ r.0; out_after = r.1 }

pub overflow_sub-count : goal.overflow_sub-count
overflow_sub-count c = es-counted c.args.bytes.now c.args.out.now _ c.escaped_count-count.ensures

pub put-requires-clause-bytes_len : goal.put-requires-clause-bytes_len
put-requires-clause-bytes_len c = let n = es-counted c.args.bytes.now c.args.out.now _ c.escaped_count-count.ensures in omega arith

pub returns : goal.returns
returns c =
    let d = es-done c.args.bytes.now c.args.out.now _ c.escaped_count-count.ensures _ c.if-out-count.false c.put.ensures in
    record { value = c.of.ensures ∙ d.0; out_after = d.1 }
