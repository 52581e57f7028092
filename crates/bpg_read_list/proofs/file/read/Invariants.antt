-- The entries so far stand in the list.
use Rattle.bpg_read_list.proofs.Listing.{Listing}
use Rattle.bpg_read_list.proofs.file.read.Given as goal

abbrev pub invariant-loop-k : goal.invariant-loop-k
invariant-loop-k l = Listing l.file l.used l.end l.initial.next.0 l.initial.numbers l.numbers l.next.0 l.k
