-- The frame is found, it is one further on, or there is none.
use Rattle.std.proofs.Common.{◌≡◌, length, arith}
use Rattle.loop_player.proofs.Laws.{find-more, find-here, find_none}
use Rattle.loop_player.proofs.round.frame_in.Goals as goal

pub returns-then-left-d : goal.returns-then-left-d
returns-then-left-d c = let l = c.loop-i in find-here c.args.durations.now l.i l.left _ (omega arith) (omega arith) l.invariant

pub loop-i-preserved : goal.loop-i-preserved
loop-i-preserved c =
    let l = c.loop-i in
    rw c.from-d.ensures (find-more c.args.durations.now l.i l.left _ (omega arith) (omega arith) l.invariant)

pub returns : goal.returns
returns c =
    let e : c.loop-i.i ≡ length c.args.durations.now = omega arith in
    rw (← e) (find_none _ _ _ _ c.loop-i-test.false c.loop-i.invariant)
