-- The samples so far are the rule's.
use Rattle.std.proofs.Common.{ℕ, ◌≡◌, ◌<◌, get_or}
use Rattle.bpg_sample_rules.specs.Rules.{complement}
use Rattle.bpg_cmyk.proofs.plane.complement_plane.Given as goal

abbrev pub invariant-loop-i : goal.invariant-loop-i
invariant-loop-i l = (k : ℕ) → k < l.i → get_or l.out k 0 ≡ complement l.m (get_or l.plane k 0)
