-- A duration more, and all of them.
use Rattle.std.proofs.Common.{sym, ◌∙◌, arith}
use Rattle.loop_player.proofs.Laws.{total-more, total-all, positive-more, positive-all}
use Rattle.loop_player.proofs.round.add_up.Goals as goal

pub loop-duration-preserved : goal.loop-duration-preserved
loop-duration-preserved c =
    let l = c.loop-duration in
    let ds = c.args.durations.now in
    record {
      small = omega arith;
      sum = rw c.from-d.ensures (total-more ds l.duration-index l.ticks _ (omega arith) l.invariant.sum);
      all = rw c.from-d.ensures (positive-more ds l.duration-index l.positive _ (omega arith) l.invariant.all);
    }

pub returns-then-positive : goal.returns-then-positive
returns-then-positive c =
    let l = c.loop-duration in
    let s = total-all _ _ _ _ c.loop-duration-test.false l.invariant.sum in
    (c.from.ensures ∙ s, omega arith, sym (positive-all _ _ _ _ c.loop-duration-test.false l.invariant.all) ∙ c.if-positive.true)
