-- Worked examples of the rules, at depth 8 unless it is named: what is computed, and what it must be. `proofs/Examples` proves them by computation.
use Rattle.std.specs.Prelude.{◌≡◌, List, [], ◌∷◌, map, ℕ}
use Rattle.bpg_sample_rules.specs.Nearest.{nearest}
use Rattle.bpg_sample_rules.specs.Rules.{unpremultiplied, complement, times_white, green_of, blue_of, red_of, full_luma}

abbrev pub examples : List (ℕ × ℕ)
examples =
    -- 1/2, 1/3, 2/3 and 5/2
    (nearest 1 2, 1) ∷ (nearest 1 3, 0) ∷ (nearest 2 3, 1) ∷ (nearest 5 2, 3) ∷
    -- 7·255/0, 1·255/2 = 127.5, 64·255/128 = 127.5, and a colour above its alpha
    (unpremultiplied 255 7 0, 255) ∷ (unpremultiplied 255 1 2, 128) ∷ (unpremultiplied 255 64 128, 128) ∷ (unpremultiplied 255 9 8, 255) ∷
    (complement 255 0, 255) ∷ (complement 255 200, 55) ∷
    -- 128·100/255 = 50.2, 127·175/255 = 87.2
    (times_white 255 128 100, 50) ∷ (times_white 255 127 175, 87) ∷
    -- "Y 255, Cg 0, Co 255 at depth 8 gives R 255, G 127, B 255": t is 383
    (red_of 8 255 0 255, 255) ∷ (green_of 8 255 0, 127) ∷ (blue_of 8 255 0 255, 255) ∷
    -- t is −127 and Co −128: R is below zero, and B is 1
    (red_of 8 0 255 0, 0) ∷ (green_of 8 0 255, 127) ∷ (blue_of 8 0 255 0, 1) ∷
    -- no chroma, at depth 14
    (red_of 14 5000 8192 8192, 5000) ∷ (green_of 14 5000 8192, 5000) ∷ (blue_of 14 5000 8192 8192, 5000) ∷
    (full_luma 15, 0) ∷ (full_luma 17, 1) ∷ (full_luma 128, 130) ∷ (full_luma 236, 255) ∷ []

pub record Examples : Type 0 where
  pub hold : map (λ e. e.0) examples ≡ map (λ e. e.1) examples
