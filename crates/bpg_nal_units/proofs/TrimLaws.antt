-- The zeros at the end of bytes.
use mathlib.Core.Path.{◌≡◌, refl, ap, ◌∙◌}
use mathlib.Core.Bool.{false}
use mathlib.Core.List.{List, [], ◌∷◌, ◌++◌}
use Prim.Native.Nat.{ℕ, zero, suc, ◌≤◌}
use native.Mathlib.Omega.{arith}
use lib.ListN.{length, take, replicate, length-take}
use borrow.Author.Tests.{ne_eqb}
use Rattle.bpg_nal_units.specs.Units.{trim_byte, trim_zeros}
use Rattle.bpg_nal_units.specs.Endings.{ends_zero}

pub trim-none : trim_zeros [] ≡ []
unfolding trim_zeros
trim-none = refl

-- a zero more at the end changes nothing
pub trim-zero : (l : List ℕ) → trim_zeros (l ++ (0 ∷ [])) ≡ trim_zeros l
unfolding trim_zeros trim_byte
trim-zero [] = refl
trim-zero (b ∷ l) = ap (trim_byte b) (trim-zero l)

not_last : (b : ℕ) (l : List ℕ) (x : ℕ) → trim_byte b (l ++ (x ∷ [])) ≡ b ∷ (l ++ (x ∷ []))
unfolding trim_byte
not_last zero [] x = refl
not_last zero (y ∷ l) x = refl
not_last (suc b) [] x = refl
not_last (suc b) (y ∷ l) x = refl

-- bytes that end in another stay as they are
pub trim-kept : (l : List ℕ) (x : ℕ) → (x ≡ 0 → ⊥) → trim_zeros (l ++ (x ∷ [])) ≡ l ++ (x ∷ [])
unfolding trim_zeros trim_byte
trim-kept [] zero h = absurd (h refl)
trim-kept [] (suc x) h = refl
trim-kept (b ∷ l) x h = ap (trim_byte b) (trim-kept l x h) ∙ not_last b l x

byte-zeros : (b : ℕ) (s l : List ℕ) (k : ℕ) → l ≡ s ++ replicate k 0 → (n : ℕ) × (b ∷ l ≡ trim_byte b s ++ replicate n 0)
unfolding trim_byte
byte-zeros zero [] l k e = (suc k, ap (λ (m : List ℕ). 0 ∷ m) e)
byte-zeros (suc b) [] l k e = (k, ap (λ (m : List ℕ). suc b ∷ m) e)
byte-zeros zero (x ∷ s) l k e = (k, ap (λ (m : List ℕ). 0 ∷ m) e)
byte-zeros (suc b) (x ∷ s) l k e = (k, ap (λ (m : List ℕ). suc b ∷ m) e)

-- what goes is zeros
pub trim-zeros : (l : List ℕ) → (n : ℕ) × (l ≡ trim_zeros l ++ replicate n 0)
unfolding trim_zeros
trim-zeros [] = (0, refl)
trim-zeros (b ∷ l) = let w = trim-zeros l in byte-zeros b (trim_zeros l) l w.0 w.1

byte-front : (b : ℕ) (s l : List ℕ) → s ≡ take (length s) l → trim_byte b s ≡ take (length (trim_byte b s)) (b ∷ l)
unfolding trim_byte
byte-front zero [] l e = refl
byte-front (suc b) [] l e = refl
byte-front zero (x ∷ s) l e = ap (λ (m : List ℕ). 0 ∷ m) e
byte-front (suc b) (x ∷ s) l e = ap (λ (m : List ℕ). suc b ∷ m) e

-- what stays is the front
pub trim-front : (l : List ℕ) → trim_zeros l ≡ take (length (trim_zeros l)) l
unfolding trim_zeros
trim-front [] = refl
trim-front (b ∷ l) = byte-front b (trim_zeros l) l (trim-front l)

pub trim-most : (l : List ℕ) → length (trim_zeros l) ≤ length l
trim-most l = let e = ap length (trim-front l) ∙ length-take (length (trim_zeros l)) l in omega arith

byte-ends : (b : ℕ) (s : List ℕ) → ends_zero s ≡ false → ends_zero (trim_byte b s) ≡ false
unfolding trim_byte ends_zero
byte-ends zero [] e = refl
byte-ends (suc b) [] e = ne_eqb (suc b) 0 (λ z. omega arith)
byte-ends zero (x ∷ s) e = e
byte-ends (suc b) (x ∷ s) e = e

-- and it ends in no zero
pub trim-ends : (l : List ℕ) → ends_zero (trim_zeros l) ≡ false
unfolding trim_zeros ends_zero
trim-ends [] = refl
trim-ends (b ∷ l) = byte-ends b (trim_zeros l) (trim-ends l)
