-- How a JPEG reader passes over application segments: it looks at the marker and the length field alone.
use Rattle.std.specs.Prelude.{List, [], ◌∷◌, ℕ, ◌+◌, ◌-◌, ◌*◌, ◌≤◌, ◌<◌, length, drop}

-- application segments up to the end: each length field, itself counted, reaches the next marker or the end
pub data Skippable : List ℕ → Type 0 where
  at-end : Skippable []
  skip : (marker high low : ℕ) (rest : List ℕ) → 224 ≤ marker → marker ≤ 239 → high < 256 → low < 256 → 2 ≤ high * 256 + low
      → high * 256 + low - 2 ≤ length rest → Skippable (drop (high * 256 + low - 2) rest) → Skippable (255 ∷ marker ∷ high ∷ low ∷ rest)
