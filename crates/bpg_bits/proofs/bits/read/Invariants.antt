-- The value so far and the bits that are left make the number.
use Rattle.std.proofs.Common.{◌≡◌, ◌-◌, ◌^◌, ◌<◌, take, drop}
use Rattle.bpg_codec.specs.Bits.{number, number_from}
use Rattle.bpg_bits.specs.BitNumbers.{region_bits}
use Rattle.bpg_bits.proofs.bits.read.Given as goal

abbrev pub invariant-loop-next : goal.invariant-loop-next
invariant-loop-next l = record {
  small : l.value < 2 ^ (l.next - l.start);
  made : number_from l.value (take (l.past - l.next) (drop l.next (region_bits l.region))) ≡ number (take l.width (drop l.start (region_bits l.region)));
}
