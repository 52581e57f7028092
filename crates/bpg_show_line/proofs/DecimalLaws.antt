-- The laws of decimal numbers: digit by digit; how many digits a number has; they make up the number, and the first is not 0.
--
use mathlib.Core.Path.{◌≡◌, refl, sym, ap, ◌∙◌}
use mathlib.Core.List.{List, [], ◌∷◌, ◌++◌, append-nil, append_assoc}
use Prim.Native.Nat.{ℕ, zero, suc, ◌+◌, ◌-◌, ◌*◌, ◌/◌, ◌%◌, ◌^◌, ◌≤◌, ◌<◌}
use native.Mathlib.Nat.{le_refl, pow-suc}
use native.Mathlib.Omega.{arith}
use lib.ListN.{length, get_or, length-append}
use Rattle.bpg_codec.proofs.Lists.{either_way}
use Rattle.bpg_show_line.specs.Text.{digits, decimal}

-- the digits before the last: two equations, after which no proof looks at how many steps are enough
abbrev pub leading : ℕ → List ℕ
leading w = digits w w

enough : (j k w : ℕ) → w ≤ j → w ≤ k → digits j w ≡ digits k w
unfolding digits
enough zero zero w h g = refl
enough zero (suc k) zero h g = refl
enough zero (suc k) (suc w) h g = absurd (omega arith)
enough (suc j) zero zero h g = refl
enough (suc j) zero (suc w) h g = absurd (omega arith)
enough (suc j) (suc k) zero h g = refl
enough (suc j) (suc k) (suc w) h g = ap (λ (l : List ℕ). l ++ ((48 + suc w % 10) ∷ [])) (enough j k (suc w / 10) (omega arith) (omega arith))

pub leading-zero : leading 0 ≡ []
unfolding digits
leading-zero = refl

pub leading-more : (w : ℕ) → 0 < w → leading w ≡ leading (w / 10) ++ ((48 + w % 10) ∷ [])
unfolding digits
leading-more zero h = absurd (omega arith)
leading-more (suc w) h = ap (λ (l : List ℕ). l ++ ((48 + suc w % 10) ∷ [])) (enough w (suc w / 10) (suc w / 10) (omega arith) (le_refl _))

pub decimal-leading : (v : ℕ) → decimal v ≡ leading (v / 10) ++ ((48 + v % 10) ∷ [])
unfolding decimal
decimal-leading v = refl

-- ---- how many digits

pub length-leading : (w : ℕ) → 0 < w → length (leading w) ≡ suc (length (leading (w / 10)))
length-leading w h = ap length (leading-more w h) ∙ length-append (leading (w / 10)) _ ∙ omega arith

-- a number below 10^k has at most k
pub leading-most : (k w : ℕ) → w < 10 ^ k → length (leading w) ≤ k
leading-most zero w h = let z : w ≡ 0 = omega arith in omega (arith, ap length (ap leading z ∙ leading-zero))
leading-most (suc k) w h =
    either_way 1 w
    (λ g. omega (arith, length-leading w g, leading-most k (w / 10) (omega (arith, pow-suc 10 k))))
    (λ g. let z : w ≡ 0 = omega arith in omega (arith, ap length (ap leading z ∙ leading-zero)))

pub decimal-most : (k v : ℕ) → v < 10 ^ suc k → length (decimal v) ≤ suc k
decimal-most k v h =
    omega (arith, ap length (decimal-leading v) ∙ length-append (leading (v / 10)) _, leading-most k (v / 10) (omega (arith, pow-suc 10 k)))

-- ---- the digits make up the number

abbrev pub value_from : ℕ → List ℕ → ℕ
value_from a [] = a
value_from a (d ∷ l) = value_from (a * 10 + (d - 48)) l

value-append : (l m : List ℕ) (a : ℕ) → value_from a (l ++ m) ≡ value_from (value_from a l) m
value-append [] m a = refl
value-append (d ∷ l) m a = value-append l m (a * 10 + (d - 48))

value-digits : (k w : ℕ) → w ≤ k → value_from 0 (digits k w) ≡ w
unfolding digits
value-digits zero w h = omega arith
value-digits (suc k) zero h = refl
value-digits (suc k) (suc w) h =
    value-append (digits k (suc w / 10)) _ 0 ∙ rw (value-digits k (suc w / 10) (omega arith)) (omega arith)

pub value-decimal : (v : ℕ) → value_from 0 (decimal v) ≡ v
value-decimal v = ap (value_from 0) (decimal-leading v) ∙ value-append (leading (v / 10)) _ 0 ∙ rw (value-digits (v / 10) (v / 10) (le_refl _)) (omega arith)

-- ---- no number but 0 begins with 0

digits-none : (k : ℕ) → digits k 0 ≡ []
unfolding digits
digits-none zero = refl
digits-none (suc k) = refl

first-digit : (k w : ℕ) (t : List ℕ) → 0 < w → w ≤ k → 48 < get_or (digits k w ++ t) 0 0
unfolding digits
first-digit zero w t h g = absurd (omega arith)
first-digit (suc k) zero t h g = absurd (omega arith)
first-digit (suc k) (suc w) t h g =
    rw append_assoc
    (either_way 1 (suc w / 10) (λ m. first-digit k (suc w / 10) _ m (omega arith))
    (λ m. let z : suc w / 10 ≡ 0 = omega arith in rw (z, digits-none k) (omega arith)))

pub decimal-first : (v : ℕ) → 0 < v → 48 < get_or (decimal v) 0 0
decimal-first v h = rw (decimal-leading v ∙ sym (leading-more v h)) (rw append-nil at (first-digit v v [] h (le_refl v)))
