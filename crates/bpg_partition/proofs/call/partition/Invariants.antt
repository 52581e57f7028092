-- The payloads so far are counted.
use Rattle.bpg_partition.proofs.PayloadLaws.{Counting}
use Rattle.bpg_partition.proofs.call.partition.Given as goal

abbrev pub invariant-loop : goal.invariant-loop
invariant-loop l = Counting l.file l.end l.block_end l.head.end.0 l.payloads l.next.0 l.counter
