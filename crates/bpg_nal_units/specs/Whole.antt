-- What is shown of the cut (request 1/13): the units lie in the data in order and share no byte; with the start codes and the zero bytes
-- between them they make up the data.
use Rattle.std.specs.Prelude.{◌≡◌, false, List, [], ◌∷◌, ◌++◌, ℕ, ◌+◌, ◌≤◌, ◌<◌, length, take, drop, get_or, replicate}
use Rattle.bpg_codec.specs.Lawful.{All}
use Rattle.bpg_nal_units.specs.Units.{starts_code, Nal, units}
use Rattle.bpg_nal_units.specs.Endings.{ends_zero}

-- bytes that stand at p are these units: after each but the last k zeros and a start code, after the last k zeros
pub data MadeOf : (p : ℕ) → List ℕ → List Nal → Type 0 where
  last : (p k : ℕ) (bytes : List ℕ) → MadeOf p (bytes ++ replicate k 0) (record { start = p; bytes = bytes } ∷ [])
  more : (p k : ℕ) (bytes rest : List ℕ) (us : List Nal) → MadeOf (p + length bytes + k + 3) rest us
      → MadeOf p (bytes ++ (replicate k 0 ++ (0 ∷ 0 ∷ 1 ∷ rest))) (record { start = p; bytes = bytes } ∷ us)

abbrev pub end_of : Nal → ℕ
end_of u = u.start + length u.bytes

abbrev pub nth : List Nal → ℕ → Nal
nth us i = get_or us i (record { start = 0; bytes = [] })

pub record Whole (p : ℕ) (l : List ℕ) : Type 0 where
  pub made_of : MadeOf p l (units p l)
  -- of any two units the earlier ends before the later starts, and all end within the data
  pub apart : (i j : ℕ) → i < j → j < length (units p l) → end_of (nth (units p l) i) ≤ (nth (units p l) j).start
  pub within : All (λ (u : Nal). (p ≤ u.start) × (end_of u ≤ p + length l)) (units p l)
  -- where the bytes stand in a file at p, each unit's bytes stand there at its start
  pub there : (f : List ℕ) → l ≡ drop p f → All (λ (u : Nal). take (length u.bytes) (drop u.start f) ≡ u.bytes) (units p l)
  -- no unit has a start code in it or a zero at its end
  pub no_code : All (λ (u : Nal). (k : ℕ) → starts_code (drop k u.bytes) ≡ false) (units p l)
  pub no_zero : All (λ (u : Nal). ends_zero u.bytes ≡ false) (units p l)
