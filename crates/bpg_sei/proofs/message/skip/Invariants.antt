-- As many bytes as there were turns are passed over.
use Rattle.bpg_sei.specs.Steps.{Skipped}
use Rattle.bpg_sei.proofs.message.skip.Given as goal

abbrev pub invariant-loop : goal.invariant-loop
invariant-loop l = Skipped l.unit l.fn.cursor l.counter l.at
