-- `rest::entries` meets its contract.
use Rattle.std.proofs.Common.{◌∙◌}
use Rattle.bpg_read_survey.proofs.EntryBlock.{block-too-large, block-empty, block-region}
use Rattle.bpg_read_survey.proofs.rest.entries.Goals as goal

pub returns-then-file-head : goal.returns-then-file-head
returns-then-file-head c = rw c.at.ensures (block-too-large c.requires c.if-file-head.true)

pub returns-then-length-eq0 : goal.returns-then-length-eq0
returns-then-length-eq0 c = rw c.none.ensures (block-empty c.requires c.if-length-eq0.true)

pub returns : goal.returns
returns c = c.read.ensures ∙ block-region c.requires c.if-file-head.false
