use Rattle.std.proofs.Common.{◌∙◌, arith}
use Rattle.bpg_batch.proofs.CallLaws.{not-complete, complete-answers, they-miss, they-add-up}
use Rattle.bpg_batch.proofs.call.batch.Goals as goal
use Rattle.bpg_batch.proofs.call.batch.Goals.{then-statuses-lengths-via-then-statuses-lengths, then-statuses-lengths-via-else-statuses-lengths+then-offsets-lengths, then-statuses-lengths-via-else-statuses-lengths+else-offsets-lengths+then-not-add_up}

pub returns-then-statuses-lengths : goal.returns-then-statuses-lengths
returns-then-statuses-lengths c =
    let s = c.args in
    let r = not-complete s.buffer.now s.lengths.now s.statuses.now s.offsets.now _ (rw c.at.ensures at c.refused.ensures)
    (λ p.
    elim c.then-statuses-lengths.branch [
      | then-statuses-lengths-via-then-statuses-lengths w ↦ omega (arith, p.as-many-statuses)
      | then-statuses-lengths-via-else-statuses-lengths+then-offsets-lengths w ↦ omega (arith, p.as-many-offsets)
      | then-statuses-lengths-via-else-statuses-lengths+else-offsets-lengths+then-not-add_up w ↦
          they-miss _ _ _ w.add_up.ensures w.if-not-add_up.true p.adds-up
    ]) in
    record { value = r.0; statuses_after = r.1.0; offsets_after = r.1.1 }

pub returns : goal.returns
returns c =
    let s = c.args in
    let a = complete-answers s.buffer.now s.lengths.now s.statuses.now s.offsets.now
    (record {
      as-many-statuses = omega arith;
      as-many-offsets = omega arith;
      adds-up = they-add-up _ _ _ c.add_up.ensures c.if-not-add_up.false;
    }) in
    record { value = c.of.ensures ∙ a.0; statuses_after = c.read_each.ensures.statuses_after ∙ a.1.0; offsets_after = c.read_each.ensures.offsets_after ∙ a.1.1 }
