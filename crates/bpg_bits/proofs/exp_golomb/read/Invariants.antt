-- Counting on from the next bit gives what counting from the first does.
use Rattle.std.proofs.Common.{◌≡◌, ◌-◌, ◌≤◌, drop}
use Rattle.bpg_bits.specs.BitNumbers.{region_bits, prefix_decode}
use Rattle.bpg_bits.proofs.exp_golomb.read.Given as goal

abbrev pub invariant-loop-next : goal.invariant-loop-next
invariant-loop-next l = record {
  few : l.next - l.at.0 ≤ 31;
  counted : prefix_decode 0 0 l.at.0 (drop l.at.0 (region_bits l.region)) ≡ prefix_decode 0 (l.next - l.at.0) l.next (drop l.next (region_bits l.region));
}
