use Rattle.std.proofs.Common.{rules, drop, ◌∙◌}
use Rattle.std.proofs.lemmas.Iterator.{YieldsList-from_slice}
use Rattle.std.proofs.lemmas.Iterator.Adapters.{YieldsList-from_skip}
use Rattle.std.proofs.lemmas.Iterator.Search.{all_from_yields_List}
use borrow.Author.Tests.{tests}
use Rattle.bpg_format.specs.Write.{is_zero, unused_zero}
use Rattle.bpg_record_entries.proofs.UsedLaws.{all_zero_entries}
use Rattle.bpg_record_entries.proofs.used.unused_zero.Goals as goal

pub returns : goal.returns
unfolding unused_zero
returns c =
    all_from_yields_List is_zero _ _ _ c.all.ensures.ran (YieldsList-from_skip c.args.«record».now.entry_count (YieldsList-from_slice c.args.«record».now.entries cc) cc) (λ x b q k. search (rules, tests))
    ∙ all_zero_entries (drop c.args.«record».now.entry_count c.args.«record».now.entries)
