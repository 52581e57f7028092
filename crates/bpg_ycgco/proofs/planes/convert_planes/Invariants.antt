-- The pixels so far are the rules' results.
use Rattle.std.proofs.Common.{◌≡◌, ℕ, ◌<◌, get_or}
use Rattle.bpg_sample_rules.specs.Rules.{green_of, blue_of, red_of}
use Rattle.bpg_ycgco.proofs.planes.convert_planes.Given as goal

abbrev pub invariant-loop-i : goal.invariant-loop-i
invariant-loop-i l = record {
  reds : (k : ℕ) → k < l.i → get_or l.red k 0 ≡ red_of l.depth (get_or l.y k 0) (get_or l.cg k 0) (get_or l.co k 0);
  greens : (k : ℕ) → k < l.i → get_or l.green k 0 ≡ green_of l.depth (get_or l.y k 0) (get_or l.cg k 0);
  blues : (k : ℕ) → k < l.i → get_or l.blue k 0 ≡ blue_of l.depth (get_or l.y k 0) (get_or l.cg k 0) (get_or l.co k 0);
}
