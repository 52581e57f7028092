-- Each sample is an index of the table.
use Rattle.std.proofs.Common.{ℕ, ◌<◌, get_or, arith}
use Rattle.bpg_sample_rules.specs.Rules.{full_luma}
use Rattle.bpg_sample_rules.proofs.Planes.{at-most-largest}
use Rattle.bpg_sample_rules.proofs.Filling.{filled_more, map_filled}
use Rattle.bpg_limited_luma.proofs.plane.look_up.Goals as goal

pub bounds-table-from : goal.bounds-table-from
bounds-table-from c = omega (arith, c.from.ensures, at-most-largest c.args.y.now c.loop-i.i, c.requires.table_of.size)

pub loop-i-preserved : goal.loop-i-preserved
loop-i-preserved c =
    let k : get_or c.args.y.now c.loop-i.i 0 < 256 = omega (arith, at-most-largest c.args.y.now c.loop-i.i) in
    filled_more (λ (k : ℕ). full_luma (get_or c.args.y.now k 0)) c.loop-i.out c.loop-i.i (omega arith) c.loop-i.invariant
    (rw c.from.ensures (c.requires.table_of.value (get_or c.args.y.now c.loop-i.i 0) k))

pub returns : goal.returns
returns c = map_filled full_luma c.args.y.now (omega arith) λ i h. c.loop-i.invariant i (omega arith)
