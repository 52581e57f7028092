use Rattle.std.proofs.Common.{◌∙◌, arith}
use Rattle.bpg_batch.proofs.EachLaws.{all_read, file-inside, offset-fits, read_next}
use Rattle.bpg_batch.proofs.each.read_each.Goals as goal

pub slice_bounds-judge-end : goal.slice_bounds-judge-end
slice_bounds-judge-end c = file-inside c.loop-k.invariant c.loop-k-test.true

pub overflow_cast-offsets : goal.overflow_cast-offsets
overflow_cast-offsets c =
    omega (arith, c.type_inv.lengths c.loop-k.k, offset-fits c.loop-k.invariant c.loop-k-test.true _ (c.numbers-status.ensures ∙ c.judge.ensures))

pub loop-k-preserved : goal.loop-k-preserved
loop-k-preserved c = read_next c.loop-k.invariant c.loop-k-test.true _ (c.numbers-status.ensures ∙ c.judge.ensures)

pub returns : goal.returns
returns c =
    let a = all_read c.loop-k.invariant c.loop-k-test.false in
    record { statuses_after = a.0; offsets_after = a.1 }
