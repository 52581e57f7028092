-- `headers::alpha_header` meets its contract.
use Rattle.std.proofs.Common.{◌∙◌}
use Rattle.bpg_read_headers.proofs.BothHeaderLaws.{alpha-present, alpha-absent}
use Rattle.bpg_read_headers.proofs.headers.alpha_header.Goals as goal

pub returns-then-present : goal.returns-then-present
returns-then-present c = c.read.ensures ∙ alpha-present _ _ _ _ c.if-present.true

pub returns : goal.returns
returns c = rw c.default.ensures (alpha-absent _ _ _ _ c.if-present.false)
