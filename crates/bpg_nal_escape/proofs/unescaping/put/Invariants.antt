-- What is done stands at the front, and what is left of the unit gives the rest.
use Rattle.std.proofs.Common.{◌≡◌, true, ◌+◌, ◌≤◌, length, drop}
use Rattle.bpg_nal_emulation.specs.Emulation.{unescape, keeps_rules}
use Rattle.bpg_nal_escape.proofs.BufferLaws.{Filling}
use Rattle.bpg_nal_escape.proofs.unescaping.put.Given as goal

abbrev pub invariant-loop : goal.invariant-loop
invariant-loop l =
    record {
      inside : l.i ≤ length l.unit;
      kept : keeps_rules (drop l.i l.unit) ≡ true;
      count : l.i + length (unescape (drop l.i l.unit)) + l.marks ≡ length l.unit + l.counter;
      filling : Filling (unescape l.unit) (unescape (drop l.i l.unit)) l.fn.out l.out l.filled.0;
    }
