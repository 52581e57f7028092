-- Where the refusal of a number points (request 6/13: "Point at the faulty byte"). `proofs/Places` proves it. The number begins at p, and its
-- region has `length l` bytes from there on.
use Rattle.std.specs.Prelude.{◌≡◌, List, [], ◌∷◌, ℕ, ◌+◌, ◌-◌, ◌*◌, ◌%◌, ◌^◌, ◌≤◌, ◌<◌, length, take}
use Rattle.bpg_codec.specs.Outcome.{error}
use Rattle.bpg_ue7.specs.Ue7.{ue7_decode}

-- the value that the groups of some bytes make, after v
abbrev pub value_from : (v : ℕ) → List ℕ → ℕ
value_from v [] = v
value_from v (b ∷ l) = value_from (v * 128 + b % 128) l

-- o is the byte "that takes the value over its limit": the bytes before it do not
pub record TakesOver (n v p : ℕ) (l : List ℕ) (o : ℕ) : Type 0 where
  pub first : p ≤ o
  pub inside : o < p + length l
  pub before : value_from v (take (o - p) l) < 2 ^ n
  pub over : 2 ^ n ≤ value_from v (take (o - p + 1) l)

pub record Places : Type 0 where
  -- at or past the number's first byte, and never past the region
  pub within : (n p : ℕ) (l : List ℕ) (s o : ℕ) → ue7_decode n p l ≡ error s o → (p ≤ o) × (o ≤ p + length l)
  -- "that of refusal 2 the offset where the missing byte should stand"
  pub missing : (n p : ℕ) (l : List ℕ) (o : ℕ) → ue7_decode n p l ≡ error 2 o → o ≡ p + length l
  -- "the place of refusal 8 becomes the byte that takes the value over its limit"
  pub large : (n p : ℕ) (l : List ℕ) (o : ℕ) → ue7_decode n p l ≡ error 8 o → TakesOver n 0 p l o
  -- "Refusal 7 .. keep[s]" its place, the number's first byte
  pub padded : (n p : ℕ) (l : List ℕ) (o : ℕ) → ue7_decode n p l ≡ error 7 o → o ≡ p
