-- The cut of HEVC data into NAL units (request 1/13): at 00 00 01. The first unit has no start code; zero bytes before a start code or at
-- the end of the data belong to no unit.
use Rattle.std.specs.Prelude.{Bool, ◌&&◌, List, [], ◌∷◌, ℕ, zero, suc, ◌+◌, eqb, ltb, length, take, drop, get_or}
use Rattle.bpg_codec.specs.Select.{select}
use Rattle.bpg_nal_units.specs.declared.cut.Cut.{Cut}
use Rattle.bpg_nal_units.specs.Search.{offset_of, offset_from}

-- the bytes begin with the start code 00 00 01 (fewer than three have no third byte that is 1)
abbrev pub starts_code : List ℕ → Bool
starts_code l = eqb (get_or l 2 0) 1 && (eqb (get_or l 1 0) 0 && eqb (get_or l 0 0) 0)

-- how many bytes stand before the first start code; all of them where there is none
abbrev pub code_offset : List ℕ → ℕ
code_offset l = offset_of starts_code l

-- a byte before bytes that were trimmed; a zero with none after it goes too
unfoldable pub trim_byte : ℕ → List ℕ → List ℕ
trim_byte zero [] = []
trim_byte (suc b) [] = suc b ∷ []
trim_byte zero (x ∷ l) = 0 ∷ x ∷ l
trim_byte (suc b) (x ∷ l) = suc b ∷ x ∷ l

-- the bytes without the zeros at their end
unfoldable pub trim_zeros : List ℕ → List ℕ
trim_zeros [] = []
trim_zeros (b ∷ l) = trim_byte b (trim_zeros l)

-- a NAL unit: the offset of its first byte, or of where that would stand, and its bytes
pub record Nal : Type 0 where
  pub start : ℕ
  pub bytes : List ℕ

-- the units of l, which stands at p: what comes before the first start code, and the units after that code. There are at most `most`.
unfoldable pub units_up_to : (most p : ℕ) → List ℕ → List Nal
units_up_to zero p l = []
units_up_to (suc k) p l =
    let n = code_offset l in
    record { start = p; bytes = trim_zeros (take n l) } ∷ select (ltb n (length l)) (units_up_to k (p + n + 3) (drop (n + 3) l)) []

-- each unit but the last has a start code after it, so there are at most as many as bytes, and one
abbrev pub units : (p : ℕ) → List ℕ → List Nal
units p l = units_up_to (suc (length l)) p l

-- ---- by offsets in a region

-- the offset of the first start code at or after i; the region's end where there is none
abbrev pub code_from : List ℕ → (i : ℕ) → ℕ
code_from region i = offset_from starts_code region i

-- the bytes of the unit that starts at i
abbrev pub bytes_at : List ℕ → (i : ℕ) → List ℕ
bytes_at region i = trim_zeros (drop i (take (code_from region i) region))

-- where it ends, and where the start code after it stands
abbrev pub cut_at : List ℕ → (i : ℕ) → Cut
cut_at region i = record { end = record { 0 = i + length (bytes_at region i) }; code = record { 0 = code_from region i } }
