-- The units of bytes make them up.
use mathlib.Core.Path.{◌≡◌, sym, ap, ◌∙◌, subst}
use mathlib.Core.Bool.{false}
use mathlib.Core.List.{List, [], ◌∷◌, ◌++◌, append_assoc}
use Prim.Native.Nat.{ℕ, zero, suc, ◌+◌, ◌≤◌, ◌<◌}
use native.Mathlib.Nat.{le_refl, add_assoc}
use native.Mathlib.Omega.{arith}
use lib.ListN.{length, take, drop, replicate, length-append, length-take, length-drop, length-replicate, take-append-drop}
use lib.Seq.{drop-drop, take_all, take-take}
use Rattle.bpg_codec.specs.Lawful.{All}
use Rattle.bpg_codec.proofs.Lists.{either_way}
use Rattle.bpg_codec.proofs.Tokens.{all_take, all_drop}
use Rattle.bpg_nal_units.specs.Units.{starts_code, code_offset, trim_zeros, Nal, units}
use Rattle.bpg_nal_units.specs.Endings.{ends_zero}
use Rattle.bpg_nal_units.specs.Whole.{MadeOf, last, more, end_of, nth, Whole}
use Rattle.bpg_nal_units.proofs.SearchLaws.{search-found, search-none}
use Rattle.bpg_nal_units.proofs.CodeLaws.{by_length, code-bytes, code-room, code-front}
use Rattle.bpg_nal_units.proofs.TrimLaws.{trim-zeros, trim-front, trim-most, trim-ends}
use Rattle.bpg_nal_units.proofs.UnitLaws.{first_unit, every-unit, units-last, units-more}

-- what holds of a last unit, and of a unit before others of which it holds, holds of all units
module _ (P : (p : ℕ) → List ℕ → List Nal → Type 0) (end : (p : ℕ) (l : List ℕ) → length l ≤ code_offset l → P p l (first_unit p l ∷ []))
    (step : (p : ℕ) (l : List ℕ) (us : List Nal) → code_offset l < length l → P (p + code_offset l + 3) (drop (code_offset l + 3) l) us
    → P p l (first_unit p l ∷ us)) where
  by-bound : (m p : ℕ) (l : List ℕ) → length l < m → P p l (units p l)
  by-bound zero p l h = absurd (omega arith)
  by-bound (suc m) p l h =
      either_way (length l) (code_offset l)
      (λ k. subst (P p l) (sym (units-last p l k)) (end p l k))
      (λ k.
      let rest = drop (code_offset l + 3) l in
      subst (P p l) (sym (units-more p l k)) (step p l _ k (by-bound m (p + code_offset l + 3) rest (rw length-drop (omega arith)))))

  pub units-each : (p : ℕ) (l : List ℕ) → P p l (units p l)
  units-each p l = by-bound (suc (length l)) p l (le_refl _)

-- ---- they make up the bytes

module _ (p : ℕ) (l : List ℕ) where
  abbrev n : ℕ
  n = code_offset l

  abbrev bytes : List ℕ
  bytes = (first_unit p l).bytes

  -- the unit and the zeros after it
  zeros : (k : ℕ) × (take n l ≡ bytes ++ replicate k 0)
  zeros = trim-zeros (take n l)

  made-last : length l ≤ n → MadeOf p l (first_unit p l ∷ [])
  made-last h =
      let z = zeros in
      subst (λ (x : List ℕ). MadeOf p x (first_unit p l ∷ [])) (sym z.1 ∙ take_all n l h) (last p z.0 bytes)

  made_more : (us : List Nal) → n < length l → MadeOf (p + n + 3) (drop (n + 3) l) us → MadeOf p l (first_unit p l ∷ us)
  made_more us h m =
      let z = zeros in
      let rest = drop (n + 3) l in
      let code : drop n l ≡ 0 ∷ 0 ∷ 1 ∷ rest = code-bytes (drop n l) (search-found starts_code l h) ∙ rw drop-drop in
      let size : n ≡ length bytes + z.0 =
      sym (length-take n l ∙ omega arith) ∙ ap length z.1 ∙ length-append bytes (replicate z.0 0) ∙ rw length-replicate
      in
      let at : p + n + 3 ≡ p + length bytes + z.0 + 3 = omega arith in
      let all : bytes ++ (replicate z.0 0 ++ (0 ∷ 0 ∷ 1 ∷ rest)) ≡ l =
      sym (append_assoc bytes (replicate z.0 0) (0 ∷ 0 ∷ 1 ∷ rest)) ∙ rw (← z.1, ← code) (take-append-drop n l)
      in
      subst (λ (x : List ℕ). MadeOf p x (first_unit p l ∷ us)) all
      (more p z.0 bytes rest us (subst (λ (q : ℕ). MadeOf q rest us) at m))

-- ---- in order

abbrev Within : ℕ → List ℕ → Nal → Type 0
Within p l u = (p ≤ u.start) × (end_of u ≤ p + length l)

first-within : (p : ℕ) (l : List ℕ) → (end_of (first_unit p l) ≤ p + code_offset l) × Within p l (first_unit p l)
first-within p l =
    let a = trim-most (take (code_offset l) l) in
    let b = length-take (code_offset l) l in
    (omega arith, (omega arith, omega arith))

all_map : {P Q : Nal → Type 0} → ((u : Nal) → P u → Q u) → (us : List Nal) → All P us → All Q us
all_map f [] h = tt
all_map f (u ∷ us) h = (f u h.0, all_map f us h.1)

all-nth : (P : Nal → Type 0) (us : List Nal) (i : ℕ) → All P us → i < length us → P (nth us i)
all-nth P [] i h k = absurd (omega arith)
all-nth P (u ∷ us) zero h k = h.0
all-nth P (u ∷ us) (suc i) h k = all-nth P us i h.1 (omega arith)

within_more : (p : ℕ) (l : List ℕ) → code_offset l < length l → (u : Nal) → Within (p + code_offset l + 3) (drop (code_offset l + 3) l) u → Within p l u
within_more p l h u w = let r = code-room l h in let d = length-drop (code_offset l + 3) l in (omega (arith, w.0), omega (arith, w.1))

abbrev Apart : List Nal → Type 0
Apart us = (i j : ℕ) → i < j → j < length us → end_of (nth us i) ≤ (nth us j).start

apart_more : (u : Nal) (us : List Nal) → ((j : ℕ) → j < length us → end_of u ≤ (nth us j).start) → Apart us → Apart (u ∷ us)
apart_more u us h a i zero k m = absurd (omega arith)
apart_more u us h a zero (suc j) k m = h j (omega arith)
apart_more u us h a (suc i) (suc j) k m = a i j (omega arith) (omega arith)

units-apart : (p : ℕ) (l : List ℕ) → All (Within p l) (units p l) × Apart (units p l)
units-apart =
    units-each (λ p l us. All (Within p l) us × Apart us)
    (λ p l h. (((first-within p l).1, tt), λ i j k m. absurd (omega arith)))
    (λ p l us h w. (
      ((first-within p l).1, all_map (within_more p l h) us w.0),
      apart_more (first_unit p l) us
          (λ j k. let a = (all-nth _ us j w.0 k).0 in let b = (first-within p l).0 in omega arith) w.1,
    ))

-- ---- their bytes

-- a unit is a front of the bytes
front : (p : ℕ) (l : List ℕ) → (first_unit p l).bytes ≡ take (length (first_unit p l).bytes) l
front p l =
    let v = take (code_offset l) l in
    let most = trim-most v in
    let size = length-take (code_offset l) l in
    trim-front v ∙ take-take (length (trim_zeros v)) (code_offset l) l (omega arith)

abbrev There : List ℕ → Nal → Type 0
There f u = take (length u.bytes) (drop u.start f) ≡ u.bytes

units-there : (p : ℕ) (l : List ℕ) → (f : List ℕ) → l ≡ drop p f → All (There f) (units p l)
units-there =
    units-each (λ p l us. (f : List ℕ) → l ≡ drop p f → All (There f) us)
    (λ p l h f e. (ap (take (length (first_unit p l).bytes)) (sym e) ∙ sym (front p l), tt))
    (λ p l us h w f e. (
      ap (take (length (first_unit p l).bytes)) (sym e) ∙ sym (front p l),
      w f (rw (e, drop-drop, add_assoc)),
    ))

-- no start code is in a unit
no_code : (p : ℕ) (l : List ℕ) (k : ℕ) → starts_code (drop k (first_unit p l).bytes) ≡ false
no_code p l k =
    let m = length (first_unit p l).bytes in
    let most = (first-within p l).0 in
    rw (front p l)
    (either_way (k + 3) m
    (λ h. code-front l k m h ∙ search-none starts_code l k (omega arith))
    (λ h. by_length (drop k (take m l)) (rw (length-drop, length-take) (omega arith))))

units-no-code : (p : ℕ) (l : List ℕ) → All (λ (u : Nal). (k : ℕ) → starts_code (drop k u.bytes) ≡ false) (units p l)
units-no-code =
    units-each (λ p l us. All (λ (u : Nal). (k : ℕ) → starts_code (drop k u.bytes) ≡ false) us) (λ p l h. (no_code p l, tt))
    (λ p l us h w. (no_code p l, w))

pub whole : (p : ℕ) (l : List ℕ) → Whole p l
whole p l =
    record {
      made_of = units-each MadeOf made-last made_more p l;
      apart = (units-apart p l).1;
      within = (units-apart p l).0;
      there = units-there p l;
      no_code = units-no-code p l;
      no_zero = every-unit (λ u. ends_zero u.bytes ≡ false) (λ q v. trim-ends v) p l;
    }

-- what holds of all bytes holds of those of the units
pub units-bytes : (P : ℕ → Type 0) (p : ℕ) (l : List ℕ) → All P l → All (λ (u : Nal). All P u.bytes) (units p l)
units-bytes P =
    units-each (λ p l us. All P l → All (λ (u : Nal). All P u.bytes) us)
    (λ p l h b. (first-bytes p l b, tt)) (λ p l us h w b. (first-bytes p l b, w (all_drop P (code_offset l + 3) l b)))
  where
    first-bytes : (p : ℕ) (l : List ℕ) → All P l → All P (first_unit p l).bytes
    first-bytes p l b = subst (All P) (sym (front p l)) (all_take P (length (first_unit p l).bytes) l b)
