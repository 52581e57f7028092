use Rattle.std.proofs.Common.{sym, ◌∙◌, arith}
use Rattle.bpg_nal_emulation.proofs.PatternLaws.{past_end, found_at, step-on}
use Rattle.bpg_nal_emulation.proofs.pattern.next.Goals as goal

pub returns-then-end-lt3 : goal.returns-then-end-lt3
returns-then-end-lt3 c = past_end _ _ (omega arith)

pub returns-then-last-at : goal.returns-then-last-at
returns-then-last-at c =
    past_end _ _ (omega arith) ∙ sym (c.loop-end.invariant ∙ c.past_high-at.ensures.from_value)

pub returns-then-bytes-at : goal.returns-then-bytes-at
returns-then-bytes-at c =
    found_at _ _ (omega arith) c.if-bytes-at.true ∙ sym (c.loop-end.invariant ∙ c.past_high-at.ensures.from_value)

pub loop-end-preserved : goal.loop-end-preserved
loop-end-preserved c = c.loop-end.invariant ∙ c.past_high-at.ensures.from_value ∙ rw c.from.ensures (step-on _ _ (omega arith) c.if-bytes-at.false)
