-- The pixels so far are the rule's results.
use Rattle.std.proofs.Common.{◌≡◌, ℕ, ◌<◌, get_or}
use Rattle.bpg_sample_rules.specs.Rules.{unpremultiplied}
use Rattle.bpg_unpremultiply.proofs.planes.convert_planes.Given as goal

abbrev pub invariant-loop-i : goal.invariant-loop-i
invariant-loop-i l = record {
  reds : (k : ℕ) → k < l.i → get_or l.red k 0 ≡ unpremultiplied l.m (get_or l.r k 0) (get_or l.a k 0);
  greens : (k : ℕ) → k < l.i → get_or l.green k 0 ≡ unpremultiplied l.m (get_or l.g k 0) (get_or l.a k 0);
  blues : (k : ℕ) → k < l.i → get_or l.blue k 0 ≡ unpremultiplied l.m (get_or l.b k 0) (get_or l.a k 0);
}
