use Rattle.std.proofs.Common.{false, map, sym, ap, ◌∙◌, List}
use Rattle.std.proofs.lemmas.Result.{err_from_is_err_and}
use Rattle.bpg_format.specs.declared.record.Entry.{Entry}
use Rattle.bpg_format.specs.Zero.{zero_entry}
use Rattle.bpg_format.specs.Records.{extension_of, record_animation}
use Rattle.bpg_format.specs.Write.{entries_in_source, check_entries}
use Rattle.bpg_write_check.proofs.EntryLaws.{at-inside, next-entry, entries-done}
use Rattle.bpg_write_check.proofs.entries.check.Goals as goal

pub check_entry-requires : goal.check_entry-requires
check_entry-requires c = at-inside _ _ _ _ (ap (entries_in_source c.args.source.now) c.entries-used.ensures ∙ c.requires) c.loop-entry-test.true

pub returns-in_err-check_entry : goal.returns-in_err-check_entry
returns-in_err-check_entry c =
    let p = err_from_is_err_and c.from_residual.result c.from_residual.ensures.1 in
    let step = next-entry (record_animation c.args.«record».now) c.args.source.now c.entries-used.result.now c.loop-entry.seen c.loop-entry.entry-index zero_entry c.loop-entry-test.true in
    rw (p.1, p.2)
    (rw (step, ← c.in_err-check_entry.ensures) at c.loop-entry.invariant
    ∙ ap (λ (l : List Entry). check_entries (record_animation c.args.«record».now) false (map (extension_of c.args.source.now) l)) c.entries-used.ensures)

pub loop-entry-preserved : goal.loop-entry-preserved
loop-entry-preserved c =
    let step = next-entry (record_animation c.args.«record».now) c.args.source.now c.entries-used.result.now c.loop-entry.seen c.loop-entry.entry-index zero_entry c.loop-entry-test.true in
    rw (step, ← c.in_ok-check_entry.ensures) at c.loop-entry.invariant

pub returns : goal.returns
returns c =
    sym (entries-done (record_animation c.args.«record».now) c.args.source.now _ c.loop-entry.seen _ c.loop-entry-test.false)
    ∙ c.loop-entry.invariant
    ∙ ap (λ (l : List Entry). check_entries (record_animation c.args.«record».now) false (map (extension_of c.args.source.now) l)) c.entries-used.ensures
