-- `bits::read` meets its contract.
use Rattle.std.proofs.Common.{◌≡◌, ℕ, suc, ◌+◌, ◌-◌, ◌*◌, ◌≤◌, ◌<◌, Bool, false, List, length, take, get_or, drop, ap, ◌∙◌, arith}
use Rattle.bpg_codec.specs.Bits.{bit, number_from, unpack}
use Rattle.bpg_codec.proofs.Bits.{bit-small}
use Rattle.bpg_codec.proofs.Lists.{drop-next}
use Rattle.bpg_bits.specs.BitNumbers.{region_bits}
use Rattle.bpg_bits.proofs.BitNumberLaws.{region-bit, region-within}
use Rattle.bpg_bits.proofs.bits.read.Goals as goal

step : (l : List Bool) (next past value b n : ℕ) → next < past → past ≤ length l → b ≡ bit (get_or l next false)
    → number_from value (take (past - next) (drop next l)) ≡ n → number_from (value * 2 + b) (take (past - (next + 1)) (drop (next + 1) l)) ≡ n
step l next past value b n h k e i =
    let m : past - next ≡ suc (past - (next + 1)) = omega arith in
    rw e (rw (m, drop-next l next false (omega arith)) at i)

pub bit_inside-requires : goal.bit_inside-requires
bit_inside-requires c = omega (arith, region-within c.args.region.now)

pub loop-next-preserved : goal.loop-next-preserved
loop-next-preserved c =
    let l = c.loop-next in
    let region = c.args.region.now in
    let n : l.next + 1 - c.args.at.0 ≡ suc (l.next - c.args.at.0) = omega arith in
    record {
      small = rw n (omega (arith, c.bit_inside.ensures, bit-small (get_or (unpack region) l.next false)));
      made = step (region_bits region) l.next _ l.value _ _ c.loop-next-test.true (omega arith)
          (c.bit_inside.ensures ∙ ap bit (region-bit region l.next (omega arith))) l.invariant.made;
    }
