-- What is done stands at the front, and what is left of the bytes gives the rest.
use Rattle.std.proofs.Common.{◌≡◌, ◌+◌, ◌≤◌, length, drop}
use Rattle.bpg_nal_emulation.specs.Emulation.{escape}
use Rattle.bpg_nal_escape.proofs.BufferLaws.{Filling}
use Rattle.bpg_nal_escape.proofs.escaping.put.Given as goal

abbrev pub invariant-loop : goal.invariant-loop
invariant-loop l =
    record {
      inside : l.i ≤ length l.bytes;
      count : l.i + length (escape (drop l.i l.bytes)) + l.counter ≡ length l.bytes + l.marks;
      filling : Filling (escape l.bytes) (escape (drop l.i l.bytes)) l.fn.out l.out l.filled.0;
    }
