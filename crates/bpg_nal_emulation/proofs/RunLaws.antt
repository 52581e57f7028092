-- A run of zeros, and what comes before and after it: start codes, the zeros at the end, and the rules.
use mathlib.Core.Path.{◌≡◌, refl, sym, ap, ◌∙◌}
use mathlib.Core.Bool.{true, false}
use mathlib.Core.List.{List, [], ◌∷◌, ◌++◌, append_assoc, append-nil}
use Prim.Native.Nat.{ℕ, zero, suc, ◌+◌, ◌≤◌}
use native.Mathlib.Nat.{le_refl}
use native.Mathlib.Omega.{arith}
use lib.Dec.{eqb}
use lib.ListN.{length, take, replicate, length-replicate}
use lib.Seq.{take-append-add, take_all}
use borrow.Author.Tests.{eq-eqb, ne_eqb}
use Rattle.bpg_codec.proofs.Lists.{take_past}
use Rattle.bpg_nal_units.specs.Search.{offset_of}
use Rattle.bpg_nal_units.specs.Units.{starts_code, code_offset, trim_byte, trim_zeros}
use Rattle.bpg_nal_units.specs.Endings.{ends_zero}
use Rattle.bpg_nal_units.proofs.Cases.{by-test, one_answer}
use Rattle.bpg_nal_units.proofs.SearchLaws.{search-end, search-here, search-later}
use Rattle.bpg_nal_units.proofs.CodeLaws.{by_first, by-second, by-third, code-bytes}
use Rattle.bpg_nal_emulation.specs.Emulation.{starts_pattern, keeps_rules}
use Rattle.bpg_nal_emulation.proofs.StretchLaws.{keeps-step}

-- the bytes of a unit that begins the bytes
abbrev pub unit_of : List ℕ → List ℕ
unit_of l = trim_zeros (take (code_offset l) l)

-- ---- start codes

-- a start code is a pattern
code-pattern : (l : List ℕ) → starts_pattern l ≡ false → starts_code l ≡ false
code-pattern l h = by-test (starts_code l) (λ e. one_answer (rw (code-bytes l e)) h) (λ e. e)

module _ (x : ℕ) (m : List ℕ) (h : 2 ≤ x) where
  -- a byte above 01 after zeros ends no start code, nor is it in one
  run_none : (n : ℕ) → starts_code (0 ∷ (replicate n 0 ++ (x ∷ m))) ≡ false
  run_none zero = by-second (0 ∷ x ∷ m) (λ e. omega arith)
  run_none (suc zero) = by-third (0 ∷ 0 ∷ x ∷ m) (λ e. omega arith)
  run_none (suc (suc n)) = by-third (0 ∷ 0 ∷ 0 ∷ (replicate n 0 ++ (x ∷ m))) (λ e. omega arith)

  pub code-past : (n : ℕ) → code_offset (replicate n 0 ++ (x ∷ m)) ≡ n + suc (code_offset m)
  code-past zero = search-later starts_code x m (by_first (x ∷ m) (λ e. omega arith)) ∙ omega arith
  code-past (suc n) = search-later starts_code 0 (replicate n 0 ++ (x ∷ m)) (run_none n) ∙ ap suc (code-past n) ∙ omega arith

pub code-run : (z : ℕ) (m : List ℕ) → code_offset (0 ∷ 0 ∷ (replicate z 0 ++ (1 ∷ m))) ≡ z
code-run zero m = search-here starts_code 0 (0 ∷ 1 ∷ m) refl
code-run (suc z) m =
    search-later starts_code 0 (0 ∷ 0 ∷ (replicate z 0 ++ (1 ∷ m))) (by-third (0 ∷ 0 ∷ 0 ∷ (replicate z 0 ++ (1 ∷ m))) (λ e. omega arith))
    ∙ ap suc (code-run z m)

zeros-none : (n : ℕ) → starts_code (replicate n 0) ≡ false
zeros-none zero = refl
zeros-none (suc zero) = refl
zeros-none (suc (suc zero)) = refl
zeros-none (suc (suc (suc n))) = refl

pub code-zeros : (n : ℕ) → code_offset (replicate n 0) ≡ n
code-zeros zero = search-end starts_code
code-zeros (suc n) = search-later starts_code 0 (replicate n 0) (zeros-none (suc n)) ∙ ap suc (code-zeros n)

-- bytes in which no pattern begins, up to r
pub record Plain (a r : List ℕ) : Type 0 where
  pub none : length a ≤ offset_of starts_pattern (a ++ r)

plain-first : (b : ℕ) (a r : List ℕ) → Plain (b ∷ a) r → (starts_pattern (b ∷ (a ++ r)) ≡ false) × Plain a r
plain-first b a r p =
    by-test (starts_pattern (b ∷ (a ++ r)))
    (λ e. absurd (let f = search-here starts_pattern b (a ++ r) e in let k = p.none in omega arith))
    (λ e. (e, record { none = let f = search-later starts_pattern b (a ++ r) e in let k = p.none in omega arith }))

pub code-after : (a r : List ℕ) → Plain a r → code_offset (a ++ r) ≡ length a + code_offset r
code-after [] r p = omega arith
code-after (b ∷ a) r p =
    let q = plain-first b a r p in
    search-later starts_code b (a ++ r) (code-pattern (b ∷ (a ++ r)) q.0) ∙ ap suc (code-after a r q.1) ∙ omega arith

-- ---- the zeros at the end

byte-kept : (b : ℕ) (s : List ℕ) → trim_byte (suc b) s ≡ suc b ∷ s
unfolding trim_byte
byte-kept b [] = refl
byte-kept b (x ∷ s) = refl

pub trim-first : (b : ℕ) (l : List ℕ) → trim_zeros (suc b ∷ l) ≡ suc b ∷ trim_zeros l
unfolding trim_zeros
trim-first b l = byte-kept b (trim_zeros l)

byte-before : (b x : ℕ) (s : List ℕ) → trim_byte b (x ∷ s) ≡ b ∷ x ∷ s
unfolding trim_byte
byte-before zero x s = refl
byte-before (suc b) x s = refl

-- bytes that end in no zero stay, whatever comes after them
trim-after : (a b : List ℕ) → ends_zero a ≡ false → trim_zeros (a ++ b) ≡ a ++ trim_zeros b
unfolding trim_zeros ends_zero
trim-after [] b h = refl
trim-after (zero ∷ []) b h = one_answer (eq-eqb 0 0 refl) h
trim-after (suc x ∷ []) b h = byte-kept x (trim_zeros b)
trim-after (x ∷ y ∷ a) b h = ap (trim_byte x) (trim-after (y ∷ a) b h) ∙ byte-before x y (a ++ trim_zeros b)

trim-run : (n : ℕ) → trim_zeros (replicate n 0) ≡ []
unfolding trim_zeros trim_byte
trim-run zero = refl
trim-run (suc n) = ap (trim_byte 0) (trim-run n)

pub ends_last : (a : List ℕ) (x : ℕ) → ends_zero (a ++ (x ∷ [])) ≡ eqb x 0
unfolding ends_zero
ends_last [] x = refl
ends_last (b ∷ []) x = refl
ends_last (b ∷ c ∷ a) x = ends_last (c ∷ a) x

trim-past : (n x : ℕ) (v : List ℕ) → (x ≡ 0 → ⊥) → trim_zeros (replicate n 0 ++ (x ∷ v)) ≡ replicate n 0 ++ (x ∷ trim_zeros v)
trim-past n x v h =
    let a : List ℕ = replicate n 0 in
    ap trim_zeros (sym (append_assoc a (x ∷ []) v)) ∙ trim-after (a ++ (x ∷ [])) v (ends_last a x ∙ ne_eqb x 0 h) ∙ append_assoc a (x ∷ []) (trim_zeros v)

-- ---- the unit that begins with bytes in which no pattern begins

module _ (a : List ℕ) (h : ends_zero a ≡ false) where
  -- up to the zeros, a byte above 01 after them, and the unit after that
  pub unit-past : (n x : ℕ) (m : List ℕ) → 2 ≤ x → Plain a (replicate n 0 ++ (x ∷ m))
      → unit_of (a ++ (replicate n 0 ++ (x ∷ m))) ≡ a ++ (replicate n 0 ++ (x ∷ unit_of m))
  unit-past n x m g p =
      let r = replicate n 0 ++ (x ∷ m) in
      rw (
        code-after a r p,
        code-past x m g n,
        take-append-add a r (n + suc (code_offset m)),
        take_past (replicate n 0) (x ∷ m) n (suc (code_offset m)) (length-replicate n 0),
        trim-after a (replicate n 0 ++ (x ∷ take (code_offset m) m)) h,
      )
      (ap (λ (y : List ℕ). a ++ y) (trim-past n x (take (code_offset m) m) (λ e. omega arith)))

  zeros-front : (z : ℕ) (m : List ℕ) → take z (0 ∷ 0 ∷ (replicate z 0 ++ m)) ≡ replicate z 0
  zeros-front zero m = refl
  zeros-front (suc z) m = ap (λ (y : List ℕ). 0 ∷ y) (zeros-front z m)

  -- before zeros and a start code
  pub unit-run : (z : ℕ) (m : List ℕ) → Plain a (0 ∷ 0 ∷ (replicate z 0 ++ (1 ∷ m))) → unit_of (a ++ (0 ∷ 0 ∷ (replicate z 0 ++ (1 ∷ m)))) ≡ a
  unit-run z m p =
      let r : List ℕ = 0 ∷ 0 ∷ (replicate z 0 ++ (1 ∷ m)) in
      rw (code-after a r p, code-run z m, take-append-add a r z, zeros-front z (1 ∷ m), trim-after a (replicate z 0) h, trim-run z) (append-nil a)

  -- before zeros at the end
  pub unit-zeros : (n : ℕ) → Plain a (replicate n 0) → unit_of (a ++ replicate n 0) ≡ a
  unit-zeros n p =
      let r : List ℕ = replicate n 0 in
      let all : take n r ≡ r = take_all n r (rw length-replicate (le_refl n)) in
      rw (code-after a r p, code-zeros n, take-append-add a r n, all, trim-after a r h, trim-run n) (append-nil a)

-- ---- the rules

-- a front of bytes that begin no pattern begins none
start-less : (b : ℕ) (u t : List ℕ) → starts_pattern (b ∷ (u ++ t)) ≡ false → starts_pattern (b ∷ u) ≡ false
start-less b [] t e = refl
start-less b (x ∷ []) t e = refl
start-less b (x ∷ y ∷ u) t e = e

pub keeps-alone : (a r : List ℕ) → Plain a r → keeps_rules a ≡ true
unfolding keeps_rules
keeps-alone [] r p = refl
keeps-alone (b ∷ a) r p = let q = plain-first b a r p in keeps-step b a (start-less b a r q.0) ∙ keeps-alone a r q.1

-- two zeros hide what comes after them
start-same : (b : ℕ) (a m v : List ℕ) → starts_pattern (b ∷ (a ++ (0 ∷ 0 ∷ m))) ≡ starts_pattern (b ∷ (a ++ (0 ∷ 0 ∷ v)))
start-same b [] m v = refl
start-same b (x ∷ []) m v = refl
start-same b (x ∷ y ∷ a) m v = refl

pub keeps-after : (a m v : List ℕ) → Plain a (0 ∷ 0 ∷ m) → keeps_rules (a ++ (0 ∷ 0 ∷ v)) ≡ keeps_rules (0 ∷ 0 ∷ v)
keeps-after [] m v p = refl
keeps-after (b ∷ a) m v p =
    let q = plain-first b a (0 ∷ 0 ∷ m) p in
    keeps-step b (a ++ (0 ∷ 0 ∷ v)) (sym (start-same b a m v) ∙ q.0) ∙ keeps-after a m v q.1
