use Rattle.std.proofs.Common.{rules, ap, ◌∙◌}
use Rattle.std.proofs.lemmas.Iterator.{YieldsList-from_slice}
use Rattle.std.proofs.lemmas.Iterator.Search.{all_from_yields_List}
use borrow.Author.Tests.{tests}
use Rattle.bpg_format.specs.declared.record.Entry.{Entry}
use Rattle.bpg_format.specs.Write.{in_source, entries_in_source}
use Rattle.bpg_record_entries.proofs.UsedLaws.{all_in_source}
use Rattle.bpg_record_entries.proofs.ranges.payloads_in.Goals as goal

pub returns : goal.returns
returns c =
    let source = c.args.source.now in
    all_from_yields_List (λ (e : Entry). in_source source e.payload) _ _ _ c.all.ensures.ran (YieldsList-from_slice c.entries.result.now cc) (λ x b q k. search (rules, tests))
    ∙ all_in_source source _ ∙ ap (entries_in_source source) c.entries.ensures
