use Rattle.std.proofs.Common.{◌∙◌}
use Rattle.bpg_nal_escape.proofs.EndingLaws.{ends-is}
use Rattle.bpg_nal_escape.proofs.escaping.ends_open.Goals as goal

pub returns : goal.returns
returns c = c.ends_with.ensures.value ∙ ends-is _
