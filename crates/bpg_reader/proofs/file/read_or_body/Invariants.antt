-- The entries so far stand in the record, and all else is as it was assembled.
use Rattle.std.proofs.Common.{◌≡◌}
use Rattle.bpg_reader.proofs.Filling.{Filling, replaced}
use Rattle.bpg_reader.proofs.file.read_or_body.Given as goal

abbrev pub invariant-loop-k : goal.invariant-loop-k
invariant-loop-k l = record {
  filling : Filling l.file l.count l.end l.initial.reading.«record» l.initial.next.0 l.reading.«record» l.next.0 l.k;
  kept : l.reading ≡ replaced l.initial.reading l.reading.«record»;
}
