use Rattle.std.proofs.Common.{not, refl, ap, ◌∙◌}
use Rattle.bpg_write_rules.proofs.FlagLaws.{none-set}
use Rattle.bpg_write_rules.proofs.absent.no_range_flag.Goals as goal

pub returns : goal.returns
returns c = ap not c.contains.ensures.value ∙ none-set _ refl refl c.args.h.range_flags
