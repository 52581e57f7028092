-- Worked examples of the cut, by computation.
use Rattle.std.specs.Prelude.{◌≡◌, refl, List, [], ◌∷◌, ℕ}
use Rattle.bpg_codec.specs.Select.{select}
use Rattle.bpg_nal_units.specs.Search.{offset_of}
use Rattle.bpg_nal_units.specs.Units.{Nal, trim_byte, trim_zeros, units_up_to, units}

abbrev nal : ℕ → List ℕ → Nal
nal p l = record { start = p; bytes = l }

two : units 14 (0x40 ∷ 1 ∷ 0 ∷ 0 ∷ 0 ∷ 1 ∷ 0x41 ∷ 0 ∷ 2 ∷ 0 ∷ 0 ∷ []) ≡ nal 14 (0x40 ∷ 1 ∷ []) ∷ nal 20 (0x41 ∷ 0 ∷ 2 ∷ []) ∷ []
unfolding select offset_of trim_byte trim_zeros units_up_to
two = refl

-- no data: the one unit is empty
none : units 7 [] ≡ nal 7 [] ∷ []
unfolding select offset_of trim_byte trim_zeros units_up_to
none = refl

-- a start code at the very start and one at the very end: two of three units are empty
ends : units 0 (0 ∷ 0 ∷ 1 ∷ 5 ∷ 0 ∷ 0 ∷ 1 ∷ []) ≡ nal 0 [] ∷ nal 3 (5 ∷ []) ∷ nal 7 [] ∷ []
unfolding select offset_of trim_byte trim_zeros units_up_to
ends = refl
