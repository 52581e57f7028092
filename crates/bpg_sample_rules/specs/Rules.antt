-- The rules of one sample: source document 001, and request 7/13, which rounds. Where 001 has 1, the largest value of a component, a sample has m.
use Rattle.std.specs.Prelude.{ℕ, ◌-◌, ◌*◌, ◌^◌, min, eqb, ltb, ℤ, pos, negsuc, ◌+ℤ◌, ◌-ℤ◌}
use Rattle.bpg_codec.specs.Select.{select}
use Rattle.bpg_sample_rules.specs.Nearest.{nearest}

-- "M = 2^depth − 1", the largest sample of a depth
unfoldable pub max_sample : (depth : ℕ) → ℕ
max_sample depth = 2 ^ depth - 1

-- 001, 3.2, alpha1_flag=1 alpha2_flag=1: "if A != 0 R' = min(R / A, 1) .. else R' = 1"; "R·M/A to the nearest, halves up"
unfoldable pub unpremultiplied : (m r a : ℕ) → ℕ
unpremultiplied m r a = select (eqb a 0) m (min m (nearest (r * m) a))

-- 001, 3.2, alpha1_flag=0 alpha2_flag=1: "C = (1 - R), M = (1 - G), Y = (1 - B), K = (1 - W)"
unfoldable pub complement : (m x : ℕ) → ℕ
complement m x = m - x

-- 001, 3.2, the same: "In case no color profile is specified, .. R' = R * W"; "R·W/M to the nearest"
unfoldable pub times_white : (m r w : ℕ) → ℕ
times_white m r w = nearest (r * w) m

-- ---- 001, 3.2, color_space 2, YCgCo (HEVC matrix_coeffs 8): "Cg and Co less half of 2^depth and so on both sides of zero: t = Y − Cg, G = Y + Cg, B = t − Co, R = t + Co"

abbrev pub half_range : (depth : ℕ) → ℕ
half_range depth = 2 ^ (depth - 1)

-- Cg or Co
abbrev pub chroma : (depth c : ℕ) → ℤ
chroma depth c = pos c -ℤ pos (half_range depth)

-- t, which is not brought into range
abbrev pub temporary : (depth y cg : ℕ) → ℤ
temporary depth y cg = pos y -ℤ chroma depth cg

-- "brought into 0 to M"
unfoldable pub clip : (m : ℕ) → ℤ → ℕ
clip m (pos n) = min m n
clip m (negsuc n) = 0

unfoldable pub green_of : (depth y cg : ℕ) → ℕ
green_of depth y cg = clip (max_sample depth) (pos y +ℤ chroma depth cg)

unfoldable pub blue_of : (depth y cg co : ℕ) → ℕ
blue_of depth y cg co = clip (max_sample depth) (temporary depth y cg -ℤ chroma depth co)

unfoldable pub red_of : (depth y cg co : ℕ) → ℕ
red_of depth y cg co = clip (max_sample depth) (temporary depth y cg +ℤ chroma depth co)

-- 001, 3.2, limited_range_flag=1, Y of 8 bits from 16 to 235: "0 below 16, 255 above 235, else (y − 16)·255/219 to the nearest"
unfoldable pub full_luma : (y : ℕ) → ℕ
full_luma y = select (ltb y 16) 0 (select (ltb 235 y) 255 (nearest ((y - 16) * 255) 219))
