-- The samples so far are the rule's.
use Rattle.std.proofs.Common.{ℕ, ◌≡◌, ◌<◌, get_or}
use Rattle.bpg_sample_rules.specs.Rules.{full_luma}
use Rattle.bpg_limited_luma.proofs.plane.look_up.Given as goal

abbrev pub invariant-loop-i : goal.invariant-loop-i
invariant-loop-i l = (k : ℕ) → k < l.i → get_or l.out k 0 ≡ full_luma (get_or l.y k 0)
