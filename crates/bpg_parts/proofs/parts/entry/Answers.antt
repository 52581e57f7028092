-- `parts::entry` meets its contract.
use Rattle.std.proofs.Common.{◌∙◌}
use Rattle.bpg_parts.proofs.PartLaws.{entry_in-range}
use Rattle.bpg_parts.proofs.parts.entry.Goals as goal

pub returns : goal.returns
returns c = c.unwrap_or.ensures ∙ rw (c.entry_at.ensures, c.default.ensures) (entry_in-range c.args.file.now c.args.k)
