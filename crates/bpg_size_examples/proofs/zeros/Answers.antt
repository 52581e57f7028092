-- `zeros` has the length that it promises.
use Rattle.std.proofs.Common.{◌≡◌, ℕ, length, replicate, sym}
use Rattle.std.proofs.lemmas.List.{length-replicate}
use Rattle.bpg_size_examples.proofs.zeros.Goals as goal

-- for every number, since the check cannot count to this one
counted : (n : ℕ) → n ≡ length {A = ℕ} (replicate n 0)
counted n = sym (length-replicate n 0)

pub returns : goal.returns
returns c = counted 1100000
