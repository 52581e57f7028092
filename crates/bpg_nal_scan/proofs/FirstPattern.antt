-- The unit that begins the bytes, and the first pattern in them.
use mathlib.Core.Path.{◌≡◌, refl, sym, ap, ◌∙◌}
use mathlib.Core.Bool.{true, false, not}
use mathlib.Core.List.{List, [], ◌∷◌, ◌++◌, append-nil}
use Prim.Native.Nat.{ℕ, zero, suc, ◌+◌, ◌≤◌, ◌<◌}
use native.Mathlib.Nat.{le_refl}
use native.Mathlib.Omega.{arith}
use lib.ListN.{length, take, drop, get_or, replicate, length-take, take-append-drop}
use lib.Seq.{take_all, take-suc, take-take}
use borrow.Author.Tests.{ne_eqb}
use Rattle.bpg_codec.proofs.Lists.{drop-next}
use Rattle.bpg_nal_units.specs.Search.{offset_of}
use Rattle.bpg_nal_units.specs.Units.{starts_code, code_offset, trim_zeros}
use Rattle.bpg_nal_units.specs.Endings.{ends_zero}
use Rattle.bpg_nal_units.proofs.Cases.{one_answer}
use Rattle.bpg_nal_units.proofs.SearchLaws.{search-end, search-here, search-later, search-found, search-none}
use Rattle.bpg_nal_units.proofs.CodeLaws.{by_first}
use Rattle.bpg_nal_units.proofs.TrimLaws.{trim-zeros, trim-front, trim-most}
use Rattle.bpg_nal_emulation.specs.Emulation.{starts_pattern, keeps_rules}
use Rattle.bpg_nal_scan.specs.Scans.{not_zero}
use Rattle.bpg_nal_emulation.proofs.PatternLaws.{pattern-bytes}
use Rattle.bpg_nal_emulation.proofs.StretchLaws.{keeps-other}
use Rattle.bpg_nal_emulation.proofs.RunLaws.{unit_of, Plain, code-after, trim-first, ends_last, keeps-alone}

-- ---- a unit that begins the bytes

front : (m : List ℕ) → unit_of m ≡ take (length (unit_of m)) m
front m =
    let v = take (code_offset m) m in
    let k = trim-most v in
    let n = length-take (code_offset m) m in
    trim-front v ∙ take-take (length (trim_zeros v)) (code_offset m) m (omega arith)

first-front : (n : ℕ) (m : List ℕ) → get_or (take n m) 0 0 ≤ get_or m 0 0
first-front zero m = omega arith
first-front (suc n) [] = le_refl 0
first-front (suc n) (b ∷ m) = le_refl b

-- its first byte is that of the bytes, or it has none
pub first-most : (m : List ℕ) → get_or (unit_of m) 0 0 ≤ get_or m 0 0
first-most m = let h = first-front (length (unit_of m)) m in omega (arith, ap (λ (l : List ℕ). get_or l 0 0) (front m))

pub first-same : (m : List ℕ) → (get_or m 0 0 ≡ 0 → ⊥) → get_or (unit_of m) 0 0 ≡ get_or m 0 0
first-same [] h = absurd (h refl)
first-same (zero ∷ m) h = absurd (h refl)
first-same (suc b ∷ m) h =
    rw (search-later starts_code (suc b) m (by_first (suc b ∷ m) (λ e. omega arith)), trim-first b (take (code_offset m) m))

-- ---- no pattern in it

module _ (l : List ℕ) (h : length l ≤ offset_of starts_pattern l) where
  pub none-code : code_offset l ≡ length l
  none-code = ap code_offset (sym (append-nil l)) ∙ code-after l [] (record { none = rw (append-nil l) h }) ∙ rw (search-end starts_code) (omega arith)

  pub none_kept : keeps_rules (unit_of l) ≡ true
  none_kept =
      let z = trim-zeros l in
      let all : take (code_offset l) l ≡ l = take_all (code_offset l) l (let c = none-code in omega arith) in
      let m = trim-most l in
      rw all (keeps-alone (trim_zeros l) (replicate z.0 0) (record { none = rw (← z.1) (omega arith) }))

-- ---- up to the first pattern

pub zeros-run : (l : List ℕ) → l ≡ replicate (offset_of not_zero l) 0 ++ drop (offset_of not_zero l) l
zeros-run [] = rw (search-end not_zero)
zeros-run (zero ∷ l) = rw (search-later not_zero 0 l refl) (ap (λ (x : List ℕ). 0 ∷ x) (zeros-run l))
zeros-run (suc b ∷ l) = rw (search-here not_zero (suc b) l (ap not (ne_eqb (suc b) 0 (λ e. omega arith))))

module _ (l : List ℕ) (h : offset_of starts_pattern l < length l) where
  abbrev n : ℕ
  n = offset_of starts_pattern l

  pub plain : Plain (take n l) (drop n l)
  plain = record { none = rw take-append-drop (let k = length-take n l in omega arith) }

  -- a zero before the two would begin a pattern too
  pub shut : (k : ℕ) → k ≡ n → ends_zero (take k l) ≡ false
  unfolding ends_zero
  shut zero e = refl
  shut (suc k) e =
      ap ends_zero (take-suc l k 0 (omega arith)) ∙ ends_last (take k l) (get_or l k 0)
      ∙ ne_eqb (get_or l k 0) 0 (λ z. one_answer (begins z) (search-none starts_pattern l k (omega arith)))
    where
      begins : get_or l k 0 ≡ 0 → starts_pattern (drop k l) ≡ true
      begins z =
          let f = (pattern-bytes (drop n l) (search-found starts_pattern l h)).0 in
          let j : k + 1 ≡ n = omega arith in
          rw (drop-next l k 0 (omega arith), z, j, f)

-- zeros and a byte after 00 00, and no emulation prevention byte
pub kept-other : (z x : ℕ) (m v : List ℕ) (t : ℕ) → get_or (replicate z 0 ++ (x ∷ m)) 0 0 ≡ t → t < 4 → (t ≡ 3 → ⊥)
    → keeps_rules (0 ∷ 0 ∷ (replicate z 0 ++ (x ∷ v))) ≡ false
kept-other zero x m v t e h k = keeps-other x v (rw e h) (rw (sym e) at k)
kept-other (suc z) x m v t e h k = keeps-other 0 (replicate z 0 ++ (x ∷ v)) (omega arith) (λ f. omega arith)
