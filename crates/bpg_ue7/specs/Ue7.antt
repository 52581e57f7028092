-- ue7(n) (document 01, "Numbers in the file"): groups of seven bits, the high group first, the top bit 1 on all bytes but the last.
use Rattle.std.specs.Prelude.{Bool, not, List, [], ◌∷◌, ◌++◌, ℕ, zero, suc, ◌+◌, ◌*◌, ◌/◌, ◌%◌, ◌^◌, ◌<◌, ltb, eqb}
use Rattle.bpg_codec.specs.Select.{select}
use Rattle.bpg_codec.specs.Outcome.{Outcome, ok, error, ◌>>=◌, guard, Decoded, decoded}
use Rattle.bpg_codec.specs.Codec.{Codec}

-- the 7-bit groups of w, the high one first, each with its top bit set; 0 has no group. Each step leaves a smaller number, so `most` = w is
-- enough
unfoldable pub groups : (most w : ℕ) → List ℕ
groups zero w = []
groups (suc k) zero = []
groups (suc k) (suc w) = groups k (suc w / 128) ++ ((128 + suc w % 128) ∷ [])

unfoldable pub ue7_bytes : ℕ → List ℕ
ue7_bytes v = groups (v / 128) (v / 128) ++ (v % 128 ∷ [])

-- v is the value so far. Request 6/13 on the places: no byte left in the region, refusal 2 where it should stand; a byte that takes the value
-- above 2^n - 1, refusal 8 at that byte
unfoldable pub ue7_rest : (n v own : ℕ) → List ℕ → Outcome (Decoded ℕ ℕ)
ue7_rest n v p [] = error 2 p
ue7_rest n v p (b ∷ l) =
    let w = v * 128 + b % 128 in
    let more = ue7_rest n w (p + 1) l in
    guard (ltb w (2 ^ n)) 8 p >>= λ _. select (ltb b 128) (ok (decoded w (p + 1) l)) more

-- first byte 0x80, refusal 7 at it
unfoldable pub ue7_decode : (n start : ℕ) → List ℕ → Outcome (Decoded ℕ ℕ)
ue7_decode n start [] = error 2 start
ue7_decode n start (b ∷ l) = guard (not (eqb b 128)) 7 start >>= λ _. ue7_rest n 0 start (b ∷ l)

abbrev pub ue7 : ℕ → Codec ℕ ℕ
ue7 n = record { encode = ue7_bytes; decode = λ i p l. ue7_decode n p l; Valid = λ v. v < 2 ^ n }

abbrev pub not_zero : ℕ → Bool
not_zero v = not (eqb v 0)
