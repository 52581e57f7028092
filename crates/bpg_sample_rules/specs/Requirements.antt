-- Request 7/13's theorems on the rules, in its own words. `proofs/Requirements` proves them, for every m and every depth at once.
use Rattle.std.specs.Prelude.{◌≡◌, ℕ, ◌≤◌, ◌<◌, length, replicate}
use mathlib.Core.List.{List, map, zip_with}
use Rattle.bpg_codec.specs.Lawful.{All}
use Rattle.bpg_sample_rules.specs.Nearest.{nearest, IsNearest}
use Rattle.bpg_sample_rules.specs.Rules.{max_sample, unpremultiplied, complement, times_white, green_of, blue_of, red_of, full_luma}
use Rattle.bpg_sample_rules.specs.Planes.{zip_with3}

-- "the result differs from the quotient by at most a half, and at a half it is the larger"
pub record Rounding : Type 0 where
  pub is : (a b : ℕ) → 0 < b → IsNearest a b (nearest a b)
  -- and no other number is
  pub only : (a b q : ℕ) → 0 < b → IsNearest a b q → q ≡ nearest a b

-- a plane of samples at most m
abbrev pub AtMost : (m : ℕ) → List ℕ → Type 0
AtMost m p = All (λ s. s ≤ m) p

-- "for samples at most M: every result is at most M"
pub record InRange : Type 0 where
  pub unpremultiply : (m : ℕ) (r a : List ℕ) → AtMost m (zip_with (unpremultiplied m) r a)
  pub cmyk : (m : ℕ) (p : List ℕ) → AtMost m (map (complement m) p)
  pub default-from-white : (m : ℕ) → 0 < m → (r w : List ℕ) → AtMost m r → AtMost m w → AtMost m (zip_with (times_white m) r w)
  pub ycgco-red : (depth : ℕ) (y cg co : List ℕ) → AtMost (max_sample depth) (zip_with3 (red_of depth) y cg co)
  pub ycgco-green : (depth : ℕ) (y cg : List ℕ) → AtMost (max_sample depth) (zip_with (green_of depth) y cg)
  pub ycgco-blue : (depth : ℕ) (y cg co : List ℕ) → AtMost (max_sample depth) (zip_with3 (blue_of depth) y cg co)
  pub limited-luma : (y : List ℕ) → AtMost 255 (map full_luma y)

-- "CMYK twice is the identity; premultiplied with A = M is the identity; R·W/M with W = M is the identity"
pub record Identities : Type 0 where
  pub cmyk-twice : (m : ℕ) (p : List ℕ) → AtMost m p → map (complement m) (map (complement m) p) ≡ p
  pub opaque : (m : ℕ) → 0 < m → (r : List ℕ) → AtMost m r → zip_with (unpremultiplied m) r (replicate (length r) m) ≡ r
  pub white : (m : ℕ) → 0 < m → (r : List ℕ) → AtMost m r → zip_with (times_white m) r (replicate (length r) m) ≡ r

-- "the luma table is monotone and takes 16 to 0 and 235 to 255"
pub record Luma : Type 0 where
  pub monotone : (y z : ℕ) → y ≤ z → full_luma y ≤ full_luma z
  pub at-16 : full_luma 16 ≡ 0
  pub at-235 : full_luma 235 ≡ 255
