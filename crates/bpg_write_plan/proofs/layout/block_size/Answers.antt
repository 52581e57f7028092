use Rattle.std.proofs.Common.{length, ap, ◌∙◌, arith}
use Rattle.std.proofs.lemmas.List.{length-take}
use Rattle.bpg_write_plan.specs.Layouts.{size_of}
use Rattle.bpg_write_plan.proofs.LayoutLaws.{entries_next}
use Rattle.bpg_write_plan.proofs.layout.block_size.Goals as goal

pub overflow_add-total-in-loop-entry-2 : goal.overflow_add-total-in-loop-entry-2
overflow_add-total-in-loop-entry-2 c = let few = ap length c.entries-used.ensures ∙ length-take _ _ in omega (arith, few)

pub loop-entry-preserved : goal.loop-entry-preserved
loop-entry-preserved c =
    let next = entries_next c.entries-used.result.now c.loop-entry.entry-index c.loop-entry-test.true in
    let tag = c.size.ensures.value ∙ ap size_of c.from.ensures in
    let count = c.size-in-loop-entry.ensures.value ∙ ap size_of c.from-length.ensures in
    (omega (arith, next, tag, count), omega arith)
