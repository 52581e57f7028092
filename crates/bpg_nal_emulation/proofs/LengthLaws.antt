-- Undoing makes no list longer and redoing none shorter; one that stays as long stays the same.
use mathlib.Core.Path.{◌≡◌, ap, ◌∙◌}
use mathlib.Core.List.{List, [], ◌∷◌}
use Prim.Native.Nat.{ℕ, ◌≤◌}
use native.Mathlib.Nat.{le_refl}
use native.Mathlib.Omega.{arith}
use lib.ListN.{length}
use Rattle.bpg_codec.proofs.Lists.{either_way}
use Rattle.bpg_nal_units.proofs.Cases.{by-test, by_equal}
use Rattle.bpg_nal_emulation.specs.Emulation.{zeros_after, is_mark, unescape_from, escape_from}
use Rattle.bpg_nal_emulation.proofs.WalkLaws.{un-end, un-mark, un-byte, es-end, es-end-open, es-low, es-high, es-byte}

pub un-most : (l : List ℕ) (z : ℕ) → length (unescape_from l z) ≤ length l
un-most [] z = rw (un-end z) (le_refl 0)
un-most (b ∷ l) z =
    by-test (is_mark z b) (λ e. rw (un-mark z b l e) (let h = un-most l 0 in omega arith))
    (λ e. rw (un-byte z b l e) (let h = un-most l (zeros_after z b) in omega arith))

pub un-same : (l : List ℕ) (z : ℕ) → length (unescape_from l z) ≡ length l → unescape_from l z ≡ l
un-same [] z h = un-end z
un-same (b ∷ l) z h =
    by-test (is_mark z b) (λ e. absurd (let k = un-most l 0 in let n = ap length (un-mark z b l e) in omega arith))
    (λ e.
    un-byte z b l e ∙ ap (λ (x : List ℕ). b ∷ x) (un-same l (zeros_after z b) (let n = ap length (un-byte z b l e) in omega arith)))

-- redoing puts a 03 before a byte, or leaves it
es-either : {P : Type 0} (z b : ℕ) (l : List ℕ) → (escape_from (b ∷ l) z ≡ 3 ∷ b ∷ escape_from l (zeros_after 0 b) → P)
    → (escape_from (b ∷ l) z ≡ b ∷ escape_from l (zeros_after z b) → P) → P
es-either z b l f g = by_equal z 2 (λ e. either_way 4 b (λ k. g (es-high z b l e k)) (λ k. f (es-low z b l e k))) (λ e. g (es-byte z b l e))

pub es-least : (l : List ℕ) (z : ℕ) → length l ≤ length (escape_from l z)
es-least [] z = omega arith
es-least (b ∷ l) z =
    es-either z b l (λ e. rw e (let h = es-least l (zeros_after 0 b) in omega arith)) (λ e. rw e (let h = es-least l (zeros_after z b) in omega arith))

pub es-same : (l : List ℕ) (z : ℕ) → length (escape_from l z) ≡ length l → escape_from l z ≡ l
es-same [] z h = by_equal z 2 (λ e. absurd (let n = ap (λ (x : ℕ). length (escape_from [] x)) e ∙ ap length es-end-open in omega arith)) (es-end z)
es-same (b ∷ l) z h =
    es-either z b l (λ e. absurd (let k = es-least l (zeros_after 0 b) in let n = ap length e in omega arith))
    (λ e. e ∙ ap (λ (x : List ℕ). b ∷ x) (es-same l (zeros_after z b) (let n = ap length e in omega arith)))
