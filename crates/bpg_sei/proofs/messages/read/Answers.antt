-- Each message is heard, and the next one stands where it ended.
use Rattle.std.proofs.Common.{sym, ◌∙◌}
use Rattle.bpg_sei.proofs.AnswerLaws.{hearing, all-cut, all-heard, more-heard}
use Rattle.bpg_sei.proofs.messages.read.Goals as goal

pub loop-message-init : goal.loop-message-init
loop-message-init c = hearing _ _ c.default-durations.ensures.0 c.default-durations.ensures.1

pub returns-in_err-message : goal.returns-in_err-message
returns-in_err-message c = rw c.from_residual.ensures (all-cut c.loop-message.invariant c.in_err-message.ensures)

pub returns-then-ends_here : goal.returns-then-ends_here
returns-then-ends_here c =
    all-heard c.loop-message.invariant _ c.in_ok-message.ensures _ c.with-durations.ensures (sym c.ends_here.ensures ∙ c.if-ends_here.true)

pub loop-message-preserved : goal.loop-message-preserved
loop-message-preserved c =
    more-heard c.loop-message.invariant _ c.in_ok-message.ensures _ c.with-durations.ensures (sym c.ends_here.ensures ∙ c.if-ends_here.false)
