use Rattle.std.proofs.Common.{Option, ◌+◌, sym, ap, ◌∙◌, subst}
use Rattle.bpg_format.specs.declared.record.Range.{Range}
use Rattle.bpg_format.specs.Zero.{zero_entry}
use Rattle.bpg_segment_export.specs.Calls.{with_tag}
use Rattle.bpg_segment_export.specs.Steps.{only_in}
use Rattle.bpg_segment_export.proofs.TagLaws.{Held, left, goes-on, first-found, second-found, all-searched}
use Rattle.bpg_segment_export.proofs.tags.with_tag.Goals as goal
use Rattle.bpg_segment_export.proofs.tags.with_tag.Goals.{then-entry-tag+else-is_some, else-entry-tag}

pub returns-then-is_some : goal.returns-then-is_some
returns-then-is_some c =
    second-found c.args.tag c.entries-used.result.now c.loop-entry.entry-index c.loop-entry-test.true zero_entry c.loop-entry.found _ (sym c.if-is_some.ensures) c.if-entry-tag.true
    c.loop-entry.invariant
    ∙ ap (only_in c.args.tag) c.entries-used.ensures

pub loop-entry-preserved : goal.loop-entry-preserved
loop-entry-preserved c =
    let es = c.entries-used.result.now in
    let k = c.loop-entry.entry-index in
    let held = λ (f : Option Range). Held f (with_tag c.args.tag es) (left c.args.tag es k c.loop-entry-test.true zero_entry (k + 1)) in
    elim c.if-entry-tag.branch [
      | then-entry-tag+else-is_some w ↦
          subst held (sym w.found-is)
          (first-found c.args.tag es k c.loop-entry-test.true zero_entry c.loop-entry.found _ (sym w.if-is_some.ensures) w.if-entry-tag.true c.loop-entry.invariant)
      | else-entry-tag w ↦
          subst held (sym w.found-is) (goes-on c.args.tag es k c.loop-entry-test.true zero_entry c.loop-entry.found _ w.if-entry-tag.false c.loop-entry.invariant)
    ]

pub returns : goal.returns
returns c =
    rw c.unwrap_or.ensures (all-searched c.args.tag c.entries-used.result.now c.loop-entry.entry-index c.loop-entry-test.false c.loop-entry.found _ c.loop-entry.invariant)
    ∙ ap (only_in c.args.tag) c.entries-used.ensures
