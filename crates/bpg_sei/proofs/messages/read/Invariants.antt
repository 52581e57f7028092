-- The messages from `cursor` on, after those that were heard, give what all give.
use Rattle.std.proofs.Common.{◌-◌, length}
use Rattle.bpg_nal_emulation.specs.Emulation.{content_at}
use Rattle.bpg_sei.specs.Messages.{durations_in}
use Rattle.bpg_sei.proofs.AnswerLaws.{Hearing}
use Rattle.bpg_sei.proofs.messages.read.Given as goal

abbrev pub invariant-loop-message : goal.invariant-loop-message
invariant-loop-message l = Hearing l.unit (durations_in (content_at l.unit 2 0)) l.cursor l.durations

abbrev pub decreases-loop-message : goal.decreases-loop-message
decreases-loop-message l = length l.unit - l.cursor.at.0
