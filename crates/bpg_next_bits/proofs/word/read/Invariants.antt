-- The bytes so far stand in the high bits of the word.
use Rattle.std.proofs.Common.{◌≡◌, ◌-◌, ◌*◌, ◌^◌, ◌≤◌, length, drop}
use Rattle.bpg_next_bits.proofs.WordLaws.{first_bytes}
use Rattle.bpg_next_bits.proofs.word.read.Given as goal

abbrev pub invariant-loop-next : goal.invariant-loop-next
invariant-loop-next l = record {
  few : l.next - l.start ≤ 8;
  there : l.next - l.start ≤ length l.region - l.start;
  made : l.word ≡ first_bytes (drop l.start l.region) (l.next - l.start) * 2 ^ (64 - 8 * (l.next - l.start));
}
