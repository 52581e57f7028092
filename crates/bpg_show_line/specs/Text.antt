-- Text as a list of numbers: words, and numbers in decimal.
use Rattle.std.specs.Prelude.{List, [], ◌∷◌, ◌++◌, ℕ, zero, suc, ◌+◌, ◌/◌, ◌%◌}
use Prim.Native.Char.{code}
use Prim.Native.String.{String, [] as no_text, ◌∷◌ as ◌then◌}

-- the code of each character
unfoldable pub ascii : String → List ℕ
ascii no_text = []
ascii (c then s) = code c ∷ ascii s

-- the digits of w, the high one first; 0 has none. Each step leaves a smaller number, so `most` = w is enough
unfoldable pub digits : (most w : ℕ) → List ℕ
digits zero w = []
digits (suc k) zero = []
digits (suc k) (suc w) = digits k (suc w / 10) ++ ((48 + suc w % 10) ∷ [])

-- v in decimal, without leading zeros; 0 is `0`
unfoldable pub decimal : ℕ → List ℕ
decimal v = digits (v / 10) (v / 10) ++ ((48 + v % 10) ∷ [])
