-- The samples so far are the rule's.
use Rattle.std.proofs.Common.{ℕ, ◌≡◌, ◌<◌, get_or}
use Rattle.bpg_sample_rules.specs.Rules.{max_sample, times_white}
use Rattle.bpg_default_from_white.proofs.plane.white_plane.Given as goal

abbrev pub invariant-loop-i : goal.invariant-loop-i
invariant-loop-i l = (k : ℕ) → k < l.i → get_or l.out k 0 ≡ times_white (max_sample l.depth) (get_or l.plane k 0) (get_or l.white k 0)
