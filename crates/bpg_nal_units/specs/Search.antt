-- Where the rest of a list first passes a test.
use Rattle.std.specs.Prelude.{Bool, List, [], ◌∷◌, ℕ, suc, min, ◌+◌, length, drop}
use Rattle.bpg_codec.specs.Select.{select}

-- how many bytes stand before it; all of them where there is none
unfoldable pub offset_of : (List ℕ → Bool) → List ℕ → ℕ
offset_of test [] = 0
offset_of test (b ∷ l) = select (test (b ∷ l)) 0 (suc (offset_of test l))

-- its offset in a region, at or after i; the region's end where there is none
abbrev pub offset_from : (List ℕ → Bool) → List ℕ → (i : ℕ) → ℕ
offset_from test region i = min (i + offset_of test (drop i region)) (length region)
