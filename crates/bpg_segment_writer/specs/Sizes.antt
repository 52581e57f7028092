-- The size of a run, from those of its payloads.
use Rattle.std.specs.Prelude.{Bool, ◌&&◌, ℕ, zero, suc, ◌+◌, ◌*◌, ◌/◌, leb}

abbrev pub is_within : (exif xmp icc : ℕ) → Bool
is_within e x i = leb e 65527 && (leb x 65504 && leb i 16707345)

abbrev pub part_size : (prefix size : ℕ) → ℕ
part_size p zero = 0
part_size p (suc n) = 4 + p + suc n

abbrev pub profile_size : ℕ → ℕ
profile_size n = n + (n + 65518) / 65519 * 18

abbrev pub run_size : (exif xmp icc : ℕ) → ℕ
run_size e x i = part_size 6 e + part_size 29 x + profile_size i
