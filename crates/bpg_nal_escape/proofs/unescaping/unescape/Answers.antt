use Rattle.std.proofs.Common.{◌∙◌, arith}
use Rattle.bpg_nal_escape.proofs.CallLaws.{un-broken, un-judged, un-small, un-done}
use Rattle.bpg_nal_escape.proofs.unescaping.unescape.Goals as goal

pub returns-in_default : goal.returns-in_default
returns-in_default c =
    let r = un-broken c.args.unit.now c.args.out.now c.in_default.ensures in
    record { value = rw c.at.ensures at c.refused.ensures ∙ r.0; out_after = r.1 }

pub returns-then-out-count : goal.returns-then-out-count
returns-then-out-count c =
    let r = un-small c.args.unit.now c.args.out.now _ c.in-Some.ensures c.if-out-count.true in
    record { value = rw c.at-then-out-count.ensures at c.refused-then-out-count.ensures ∙ r.0; out_after = r.1 }

pub overflow_sub-unit : goal.overflow_sub-unit
overflow_sub-unit c = let j = un-judged c.args.unit.now c.args.out.now _ c.in-Some.ensures in omega arith

pub put-requires : goal.put-requires
put-requires c =
    let j = un-judged c.args.unit.now c.args.out.now _ c.in-Some.ensures in
    record { unit_value = j.0; marks_len = omega arith; unit_in_bounds = omega arith }

pub returns : goal.returns
returns c =
    let d = un-done c.args.unit.now c.args.out.now _ c.in-Some.ensures _ c.if-out-count.false c.put.ensures in
    record { value = c.of.ensures ∙ d.0; out_after = d.1 }
