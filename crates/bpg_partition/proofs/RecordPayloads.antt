-- The payloads of a record's entries, as one sum.
use mathlib.Core.Path.{◌≡◌, refl, ap, ◌∙◌}
use mathlib.Core.List.{List, [], ◌∷◌}
use Prim.Native.Nat.{ℕ, ◌+◌}
use Rattle.std.specs.Prelude.{sum_by}
use Rattle.std.proofs.lemmas.List.Sums.{sum_by-cons}
use Rattle.bpg_format.specs.declared.record.Entry.{Entry}
use Rattle.bpg_partition.specs.Partitions.{payload_bytes}

pub payloads-sum : (es : List Entry) → sum_by (λ (e : Entry). e.payload.length) es ≡ payload_bytes es
unfolding payload_bytes
payloads-sum [] = refl
payloads-sum (e ∷ es) = sum_by-cons (λ (x : Entry). x.payload.length) e es ∙ ap (λ (n : ℕ). e.payload.length + n) (payloads-sum es)
