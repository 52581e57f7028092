use Rattle.std.proofs.Common.{◌∙◌}
use Rattle.bpg_write_check.proofs.EntryLaws.{other_tag, second-control, first-control}
use Rattle.bpg_write_check.proofs.entries.check_entry.Goals as goal

pub returns-then-entry-ne5 : goal.returns-then-entry-ne5
returns-then-entry-ne5 c = other_tag _ _ _ c.if-entry-ne5.true

pub returns-then-seen : goal.returns-then-seen
returns-then-seen c = second-control _ _ _ c.if-entry-ne5.false c.if-seen.true

pub returns : goal.returns
returns c = c.check_control.ensures ∙ first-control _ _ _ c.if-entry-ne5.false c.if-seen.false
