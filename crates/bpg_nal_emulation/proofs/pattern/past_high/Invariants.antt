-- No pattern begins from `from` up to `i`.
use Rattle.std.proofs.Common.{◌-◌, length}
use Rattle.bpg_nal_emulation.proofs.PatternLaws.{Past}
use Rattle.bpg_nal_emulation.proofs.pattern.past_high.Given as goal

abbrev pub invariant-loop-i : goal.invariant-loop-i
invariant-loop-i l = Past l.bytes l.fn.from l.i

abbrev pub decreases-loop-i : goal.decreases-loop-i
decreases-loop-i l = length l.bytes - l.i
