use Rattle.std.proofs.Common.{min, ◌+◌, ◌*◌, arith}
use lib.Pow.{pow_pos}
use Rattle.bpg_ue7.proofs.Reading.{empty, marked, begun, cut, large, done, more}
use Rattle.bpg_ue7.proofs.ue7.read.Goals as goal

pub returns-then-region-start : goal.returns-then-region-start
returns-then-region-start c = rw c.at.ensures (empty _ _ _ (omega arith))

pub returns-then-first : goal.returns-then-first
returns-then-first c = rw c.at-then-first.ensures (marked _ _ _ (omega arith) (omega arith))

pub returns-then-most-low : goal.returns-then-most-low
returns-then-most-low c = rw c.at-then-most-low.ensures (large _ _ _ _ _ (begun _ _ _ (omega arith) (omega arith)) (omega arith) c.from-low.result (omega arith) (omega arith))

pub returns-then-first-lt128 : goal.returns-then-first-lt128
returns-then-first-lt128 c =
    done _ _ _ _ _ (begun _ _ _ (omega arith) (omega arith)) (omega arith) c.from.result (omega arith) (omega (arith, pow_pos (min c.args.n 32))) (omega arith)

pub loop-i-init : goal.loop-i-init
loop-i-init c = (
  omega arith,
  more _ _ _ _ _ (begun _ _ _ (omega arith) (omega arith)) (omega arith) c.from-low.result (omega arith) (omega (arith, pow_pos (min c.args.n 32))) (omega arith),
)

pub returns-then-most-value : goal.returns-then-most-value
returns-then-most-value c =
    rw c.at-then-most-value.ensures (large _ _ _ _ _ c.loop-i.invariant.1 (omega arith) (c.loop-i.value * 128 + c.from-in-loop-i.result) (omega arith) (omega arith))

pub returns-then-byte-lt128 : goal.returns-then-byte-lt128
returns-then-byte-lt128 c =
    done _ _ _ _ _ c.loop-i.invariant.1 (omega arith) (c.loop-i.value * 128 + c.from-in-loop-i.result) (omega arith) (omega (arith, pow_pos (min c.args.n 32))) (omega arith)

pub loop-i-preserved : goal.loop-i-preserved
loop-i-preserved c = (
  omega arith,
  more _ _ _ _ _ c.loop-i.invariant.1 (omega arith) (c.loop-i.value * 128 + c.from-in-loop-i.result) (omega arith) (omega (arith, pow_pos (min c.args.n 32))) (omega arith),
)

pub returns : goal.returns
returns c = rw c.at-2.ensures (cut _ _ _ _ _ c.loop-i.invariant.1 (omega arith))
