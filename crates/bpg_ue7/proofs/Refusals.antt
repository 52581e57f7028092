-- The statuses of ue7(n): 2, 7 and 8.
use mathlib.Core.Bool.{not}
use mathlib.Core.List.{List, [], ◌∷◌}
use Prim.Native.Nat.{ℕ, ◌+◌, ◌*◌, ◌%◌, ◌^◌}
use lib.Dec.{ltb, eqb}
use Rattle.bpg_codec.specs.Outcome.{decoded}
use Rattle.bpg_codec.proofs.Refusals.{Refuses, refuses-ok, refuses-error, refuses-guard, refuses-select, CodecRefuses}
use Rattle.bpg_ue7.specs.Ue7.{ue7_rest, ue7_decode, ue7}

module _ (P : ℕ → ℕ → Type 0) (two : (o : ℕ) → P 2 o) (seven : (o : ℕ) → P 7 o) (eight : (o : ℕ) → P 8 o) where
  rest-refuses : (l : List ℕ) (n v p : ℕ) → Refuses P (ue7_rest n v p l)
  unfolding ue7_rest
  rest-refuses [] n v p = refuses-error P 2 p (two p)
  rest-refuses (b ∷ l) n v p =
      refuses-guard P (ltb (v * 128 + b % 128) (2 ^ n)) 8 p _ (eight p)
      (refuses-select P (ltb b 128) _ _ (refuses-ok P (decoded (v * 128 + b % 128) (p + 1) l)) (rest-refuses l n (v * 128 + b % 128) (p + 1)))

  decode-refuses : (n start : ℕ) (l : List ℕ) → Refuses P (ue7_decode n start l)
  unfolding ue7_decode
  decode-refuses n start [] = refuses-error P 2 start (two start)
  decode-refuses n start (b ∷ l) = refuses-guard P (not (eqb b 128)) 7 start _ (seven start) (rest-refuses (b ∷ l) n 0 start)

  pub ue7-refuses : (n : ℕ) → CodecRefuses P (ue7 n)
  ue7-refuses n = record { refuses = λ i p l. decode-refuses n p l }
