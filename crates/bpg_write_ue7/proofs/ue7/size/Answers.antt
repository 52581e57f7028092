-- Each turn takes one group of those that are left.
use Rattle.std.proofs.Common.{◌≡◌, ap, ◌∙◌, length, arith}
use Rattle.bpg_ue7.proofs.Ue7Laws.{high, high_zero, size-high, size-bytes, size-most}
use Rattle.bpg_write_ue7.proofs.ue7.size.Goals as goal

pub loop-left-init : goal.loop-left-init
loop-left-init c = omega (arith, size-bytes c.args.v)

pub overflow_add-count : goal.overflow_add-count
overflow_add-count c = omega (arith, size-most c.args.v c.ranges.v.fits)

pub loop-left-preserved : goal.loop-left-preserved
loop-left-preserved c = omega (arith, size-high c.loop-left.left c.loop-left-test.true)

pub returns : goal.returns
returns c = let z : c.loop-left.left ≡ 0 = omega arith in omega (arith, ap length (ap high z ∙ high_zero))
