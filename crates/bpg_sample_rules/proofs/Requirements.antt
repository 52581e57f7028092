-- Request 7/13's theorems on the rules.
use mathlib.Core.Path.{◌≡◌, refl, ap, ◌∙◌}
use Prim.Native.Nat.{ℕ, ◌*◌, ◌≤◌, ◌<◌, min}
use native.Mathlib.Nat.{min-le_left, min-eq_right, mul-le-mul}
use native.Mathlib.Omega.{arith}
use lib.Dec.{eqb}
use lib.IntN.{ℤ, pos, negsuc}
use borrow.Author.Tests.{ne_eqb}
use mathlib.Core.Bool.{Bool, true, false}
use Rattle.bpg_codec.specs.Select.{select}
use Rattle.bpg_codec.proofs.Select.{select-false}
use Rattle.bpg_sample_rules.specs.Nearest.{nearest}
use Rattle.bpg_sample_rules.specs.Rules.{max_sample, unpremultiplied, complement, times_white, clip, green_of, blue_of, red_of, full_luma}
use Rattle.bpg_sample_rules.specs.Requirements.{Rounding, InRange, Identities, Luma}
use Rattle.bpg_sample_rules.proofs.Nearest.{nearest-is, nearest-only, nearest-at-most, nearest-whole}
use Rattle.bpg_sample_rules.proofs.Luma.{luma-at-most, luma-monotone}
use Rattle.bpg_sample_rules.proofs.Planes.{map-all, zip-all, zip3-all, zip-kept, map-twice, zip-same}

pub rounding : Rounding
rounding = record { is = nearest-is; only = nearest-only }

-- ---- in range

either : (b : Bool) (m n : ℕ) → select b m (min m n) ≤ m
unfolding select
either true m n = omega arith
either false m n = min-le_left m n

unpremultiplied-at-most : (m r a : ℕ) → unpremultiplied m r a ≤ m
unfolding unpremultiplied
unpremultiplied-at-most m r a = either (eqb a 0) m (nearest (r * m) a)

complement-at-most : (m x : ℕ) → complement m x ≤ m
unfolding complement
complement-at-most m x = omega arith

times-at-most : (m : ℕ) → 0 < m → (r w : ℕ) → r ≤ m → w ≤ m → times_white m r w ≤ m
unfolding times_white
times-at-most m h r w p q = nearest-at-most (r * w) m h (mul-le-mul p q)

clip-at-most : (m : ℕ) (z : ℤ) → clip m z ≤ m
unfolding clip
clip-at-most m (pos n) = min-le_left m n
clip-at-most m (negsuc n) = omega arith

pub in-range : InRange
unfolding green_of blue_of red_of
in-range =
    record {
      unpremultiply = λ m. zip-all (λ s. s ≤ m) (unpremultiplied m) (unpremultiplied-at-most m);
      cmyk = λ m. map-all (λ s. s ≤ m) (complement m) (complement-at-most m);
      default-from-white = λ m h. zip-kept (λ s. s ≤ m) (times_white m) (times-at-most m h);
      ycgco-red = λ d. zip3-all (λ s. s ≤ max_sample d) (red_of d) λ y cg co. clip-at-most (max_sample d) _;
      ycgco-green = λ d. zip-all (λ s. s ≤ max_sample d) (green_of d) λ y cg. clip-at-most (max_sample d) _;
      ycgco-blue = λ d. zip3-all (λ s. s ≤ max_sample d) (blue_of d) λ y cg co. clip-at-most (max_sample d) _;
      limited-luma = map-all (λ s. s ≤ 255) full_luma luma-at-most;
    }

-- ---- identities

complement-twice : (m x : ℕ) → x ≤ m → complement m (complement m x) ≡ x
unfolding complement
complement-twice m x h = omega arith

opaque-same : (m : ℕ) → 0 < m → (r : ℕ) → r ≤ m → unpremultiplied m r m ≡ r
unfolding unpremultiplied
opaque-same m h r p =
    select-false _ _ (ne_eqb m 0 (omega arith)) ∙ ap (min m) (nearest-whole r m h) ∙ min-eq_right p

white-same : (m : ℕ) → 0 < m → (r : ℕ) → r ≤ m → times_white m r m ≡ r
unfolding times_white
white-same m h r p = nearest-whole r m h

pub identities : Identities
identities =
    record {
      cmyk-twice = λ m. map-twice (λ s. s ≤ m) (complement m) (complement-twice m);
      opaque = λ m h. zip-same (λ s. s ≤ m) (unpremultiplied m) m (opaque-same m h);
      white = λ m h. zip-same (λ s. s ≤ m) (times_white m) m (white-same m h);
    }

pub luma : Luma
unfolding full_luma select nearest
luma = record { monotone = luma-monotone; at-16 = refl; at-235 = refl }
