use Rattle.std.proofs.Common.{rules, ◌==◌, ap, ◌∙◌}
use Rattle.std.proofs.lemmas.Iterator.{YieldsList-from_slice}
use Rattle.std.proofs.lemmas.Iterator.Search.{any_from_yields_List}
use Rattle.std.specs.List.{list_any}
use borrow.Author.Tests.{tests}
use Rattle.bpg_format.specs.declared.record.Entry.{Entry}
use Rattle.bpg_format.specs.Records.{used_entries}
use Rattle.bpg_record_entries.proofs.UsedLaws.{any_control}
use Rattle.bpg_record_entries.proofs.used.has_control.Goals as goal

pub returns : goal.returns
returns c = λ source.
    any_from_yields_List (λ (e : Entry). e.tag == 5) _ _ _ c.any.ensures.ran (YieldsList-from_slice c.entries.result.now cc) (λ x b q k. search (rules, tests))
    ∙ ap (list_any (λ (e : Entry). e.tag == 5)) c.entries.ensures ∙ any_control source (used_entries c.args.«record».now)
