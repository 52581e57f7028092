use Rattle.std.proofs.Common.{arith}
use Rattle.bpg_nal_emulation.proofs.PatternLaws.{past-3, past-6, past-9, past-12}
use Rattle.bpg_nal_emulation.proofs.pattern.past_high.Goals as goal

pub returns-then-bytes-i-lt4-2-clause-from_value : goal.returns-then-bytes-i-lt4-2-clause-from_value
returns-then-bytes-i-lt4-2-clause-from_value c = (past-3 _ _ _ c.loop-i.invariant (omega arith) c.if-bytes-i-lt4.false).1

pub returns-then-bytes-i-lt4-3-clause-from_value : goal.returns-then-bytes-i-lt4-3-clause-from_value
returns-then-bytes-i-lt4-3-clause-from_value c =
    (past-6 _ _ _ c.loop-i.invariant (omega arith) c.if-bytes-i-lt4.false c.if-bytes-i-lt4-2.false).1

pub returns-then-bytes-i-lt4-4-clause-from_value : goal.returns-then-bytes-i-lt4-4-clause-from_value
returns-then-bytes-i-lt4-4-clause-from_value c =
    (past-9 _ _ _ c.loop-i.invariant (omega arith) c.if-bytes-i-lt4.false c.if-bytes-i-lt4-2.false c.if-bytes-i-lt4-3.false).1

pub loop-i-preserved : goal.loop-i-preserved
loop-i-preserved c =
    past-12 _ _ _ c.loop-i.invariant (omega arith) c.if-bytes-i-lt4.false c.if-bytes-i-lt4-2.false c.if-bytes-i-lt4-3.false c.if-bytes-i-lt4-4.false
