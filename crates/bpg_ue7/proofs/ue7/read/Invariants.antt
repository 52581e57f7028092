-- The value so far is within the limit, and reading on from the next byte gives what reading from the start does.
use Rattle.std.proofs.Common.{◌≡◌, ◌≤◌, min, drop}
use Rattle.bpg_ue7.specs.Ue7.{ue7_rest, ue7_decode}
use Rattle.bpg_ue7.proofs.ue7.read.Given as goal

abbrev pub invariant-loop-i : goal.invariant-loop-i
invariant-loop-i l =
    (l.value ≤ l.most) × (ue7_decode (min l.n 32) l.start (drop l.start l.region) ≡ ue7_rest (min l.n 32) l.value l.i (drop l.i l.region))
