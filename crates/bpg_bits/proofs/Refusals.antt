-- The status of u(n) and ue(v): 15.
use mathlib.Core.Bool.{Bool, true, false}
use mathlib.Core.List.{List, [], ◌∷◌}
use Prim.Native.Nat.{ℕ, ◌+◌, ◌-◌, ◌^◌}
use lib.Dec.{ltb, leb}
use lib.ListN.{length, take, drop}
use Rattle.bpg_codec.specs.Outcome.{decoded}
use Rattle.bpg_codec.specs.Bits.{number}
use Rattle.bpg_codec.proofs.Refusals.{Refuses, refuses-ok, refuses-error, refuses-bind, refuses-guard, CodecRefuses}
use Rattle.bpg_bits.specs.BitNumbers.{unsigned_decode, unsigned, prefix_decode, exp_golomb}

module _ (P : ℕ → ℕ → Type 0) (fifteen : (o : ℕ) → P 15 o) where
  pub unsigned-refuses : (n : ℕ) → CodecRefuses P (unsigned n)
  unsigned-refuses n = record { refuses = λ i p l. refuses-guard P (leb n (length l)) 15 i _ (fifteen i) (refuses-ok P (decoded (number (take n l)) (p + n) (drop n l))) }

  prefix-refuses : (l : List Bool) (i z p : ℕ) → Refuses P (prefix_decode i z p l)
  unfolding prefix_decode
  prefix-refuses [] i z p = refuses-error P 15 i (fifteen i)
  prefix-refuses (true ∷ l) i z p = refuses-ok P (decoded z (p + 1) l)
  prefix-refuses (false ∷ l) i z p = refuses-guard P (ltb z 31) 15 i _ (fifteen i) (prefix-refuses l i (z + 1) (p + 1))

  pub exp_golomb-refuses : CodecRefuses P exp_golomb
  exp_golomb-refuses =
      record {
        refuses = λ i p l.
            refuses-bind P (prefix_decode i 0 p l) _ (prefix-refuses l i 0 p) λ x.
            refuses-bind P (unsigned_decode x.value i x.next x.rest) _ ((unsigned-refuses x.value).refuses i x.next x.rest) λ y.
            refuses-ok P (decoded (2 ^ x.value - 1 + y.value) y.next y.rest);
      }
