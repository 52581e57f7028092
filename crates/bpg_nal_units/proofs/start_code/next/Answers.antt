use Rattle.std.proofs.Common.{sym, ◌∙◌, arith}
use Rattle.bpg_nal_units.proofs.CodeLaws.{past_end, high-third, zero-third, other-second, other-first, found_at}
use Rattle.bpg_nal_units.proofs.start_code.next.Goals as goal

pub returns-then-end-lt3 : goal.returns-then-end-lt3
returns-then-end-lt3 c = past_end _ _ (omega arith)

pub loop-i-preserved-then-third-gt1 : goal.loop-i-preserved-then-third-gt1
loop-i-preserved-then-third-gt1 c = c.loop-i.invariant ∙ high-third _ _ (omega arith) c.if-third-gt1.true

pub loop-i-preserved-then-third-eq0 : goal.loop-i-preserved-then-third-eq0
loop-i-preserved-then-third-eq0 c = c.loop-i.invariant ∙ zero-third _ _ (omega arith) c.if-third-eq0.true

pub loop-i-preserved-then-region-i-ne0 : goal.loop-i-preserved-then-region-i-ne0
loop-i-preserved-then-region-i-ne0 c =
    c.loop-i.invariant ∙ other-second _ _ (omega arith) c.if-third-eq0.false c.if-region-i-ne0.true

pub loop-i-preserved : goal.loop-i-preserved
loop-i-preserved c = c.loop-i.invariant ∙ other-first _ _ (omega arith) c.if-third-eq0.false c.if-region-i-ne0-2.true

pub returns-in-loop-i : goal.returns-in-loop-i
returns-in-loop-i c =
    found_at _ _ (omega arith) (omega arith) c.if-region-i-ne0.false c.if-region-i-ne0-2.false ∙ sym c.loop-i.invariant

pub returns : goal.returns
returns c = past_end _ _ (omega arith) ∙ sym c.loop-i.invariant
