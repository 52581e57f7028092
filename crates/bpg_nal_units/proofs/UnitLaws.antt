-- The units: those of what is left, and a unit as a part of its region.
use mathlib.Core.Path.{◌≡◌, refl, sym, ap, ◌∙◌}
use mathlib.Core.List.{List, [], ◌∷◌}
use Prim.Native.Nat.{ℕ, zero, suc, ◌+◌, ◌-◌, ◌≤◌, ◌<◌}
use native.Mathlib.Nat.{add_assoc}
use native.Mathlib.Omega.{arith}
use lib.Dec.{ltb}
use lib.ListN.{length, take, drop, length-take, length-drop}
use lib.Seq.{drop-drop, take-take}
use borrow.Author.Tests.{lt-ltb, le-ltb}
use Rattle.bpg_codec.specs.Select.{select}
use Rattle.bpg_codec.specs.Lawful.{All}
use Rattle.bpg_codec.proofs.Select.{select-true, select-false}
use Rattle.bpg_codec.proofs.Lists.{either_way, take-drop}
use Rattle.bpg_nal_units.specs.Units.{starts_code, code_offset, trim_zeros, Nal, units_up_to, units, code_from, bytes_at}
use Rattle.bpg_nal_units.proofs.SearchLaws.{search-most}
use Rattle.bpg_nal_units.proofs.CodeLaws.{code-room}
use Rattle.bpg_nal_units.proofs.TrimLaws.{trim-front, trim-most}

abbrev pub first_unit : ℕ → List ℕ → Nal
first_unit p l = record { start = p; bytes = trim_zeros (take (code_offset l) l) }

-- any bound above the length is enough
enough : (j k p : ℕ) (l : List ℕ) → length l < j → length l < k → units_up_to j p l ≡ units_up_to k p l
unfolding units_up_to
enough zero k p l h g = absurd (omega arith)
enough (suc j) zero p l h g = absurd (omega arith)
enough (suc j) (suc k) p l h g =
    either_way (length l) (code_offset l)
    (λ z. rw (le-ltb _ _ z) (ap (λ (m : List Nal). first_unit p l ∷ m) (select-false _ _ refl ∙ sym (select-false _ _ refl))))
    (λ z. ap (λ (m : List Nal). first_unit p l ∷ select (ltb (code_offset l) (length l)) m [])
    (enough j k (p + code_offset l + 3) (drop (code_offset l + 3) l) (rw length-drop (omega arith)) (rw length-drop (omega arith))))

module _ (p : ℕ) (l : List ℕ) where
  pub units-last : length l ≤ code_offset l → units p l ≡ first_unit p l ∷ []
  unfolding units_up_to
  units-last h = ap (λ (m : List Nal). first_unit p l ∷ m) (select-false _ _ (le-ltb _ _ h))

  pub units-more : code_offset l < length l → units p l ≡ first_unit p l ∷ units (p + code_offset l + 3) (drop (code_offset l + 3) l)
  unfolding units_up_to
  units-more h =
      let rest = drop (code_offset l + 3) l in
      ap (λ (m : List Nal). first_unit p l ∷ m)
      (select-true _ _ (lt-ltb _ _ h)
      ∙ enough (length l) (suc (length rest)) (p + code_offset l + 3) rest (rw length-drop (omega arith)) (omega arith))

-- what holds of every trimmed list holds of every unit
module _ (P : Nal → Type 0) (each : (p : ℕ) (v : List ℕ) → P (record { start = p; bytes = trim_zeros v })) where
  all-up-to : (k p : ℕ) (l : List ℕ) → All P (units_up_to k p l)
  unfolding units_up_to
  all-up-to zero p l = tt
  all-up-to (suc k) p l = (
    each p (take (code_offset l) l),
    either_way (length l) (code_offset l) (λ h. rw (select-false {X = List Nal} (rest k p l) [] (le-ltb _ _ h)) tt)
        (λ h. rw (select-true {X = List Nal} (rest k p l) [] (lt-ltb _ _ h)) (all-up-to k (p + code_offset l + 3) (drop (code_offset l + 3) l))),
  )
    where
      rest : (k p : ℕ) → List ℕ → List Nal
      rest k p l = units_up_to k (p + code_offset l + 3) (drop (code_offset l + 3) l)

  pub every-unit : (p : ℕ) (l : List ℕ) → All P (units p l)
  every-unit p l = all-up-to (suc (length l)) p l

-- ---- by offsets in a region

abbrev pub unit_at : List ℕ → ℕ → Nal
unit_at d i = record { start = i; bytes = bytes_at d i }

module _ (d : List ℕ) (i : ℕ) (h : i ≤ length d) where
  pub cut-at : code_from d i ≡ i + code_offset (drop i d)
  cut-at = let k = search-most starts_code (drop i d) in omega (arith, length-drop i d)

  pub first-unit : first_unit i (drop i d) ≡ unit_at d i
  first-unit = rw (cut-at, take-drop)

  pub last-at : length d ≤ code_from d i → units i (drop i d) ≡ unit_at d i ∷ []
  last-at k = units-last i (drop i d) (rw length-drop (let e = cut-at in omega arith)) ∙ rw first-unit

  pub room_at : code_from d i < length d → code_from d i + 3 ≤ length d
  room_at k =
      let e = cut-at in
      let r = code-room (drop i d) (rw length-drop (omega arith)) in
      omega (arith, length-drop i d)

  pub more-at : code_from d i < length d → units i (drop i d) ≡ unit_at d i ∷ units (code_from d i + 3) (drop (code_from d i + 3) d)
  more-at k =
      units-more i (drop i d) (rw length-drop (let e = cut-at in omega arith))
      ∙ rw (first-unit, cut-at, drop-drop, add_assoc)

  -- the unit's bytes are those from i up to its end
  between : drop i (take (code_from d i) d) ≡ take (code_from d i - i) (drop i d)
  between =
      let e : i + (code_from d i - i) ≡ code_from d i = (let c = cut-at in omega arith) in
      ap (λ (k : ℕ). drop i (take k d)) (sym e) ∙ sym (take-drop (code_from d i - i) i d)

  pub end-at : (i ≤ i + length (bytes_at d i)) × (i + length (bytes_at d i) ≤ code_from d i)
  end-at =
      let m = trim-most (drop i (take (code_from d i) d)) in
      let k = ap length between ∙ length-take (code_from d i - i) (drop i d) in
      let c = cut-at in
      (omega arith, omega arith)

  pub part_at : take (i + length (bytes_at d i) - i) (drop i d) ≡ bytes_at d i
  part_at =
      let e : i + length (bytes_at d i) - i ≡ length (bytes_at d i) = omega arith in
      let r = end-at in
      ap (λ (k : ℕ). take k (drop i d)) e
      ∙ sym (take-take (length (bytes_at d i)) (code_from d i - i) (drop i d) (omega arith))
      ∙ ap (take (length (bytes_at d i))) (sym between)
      ∙ sym (trim-front (drop i (take (code_from d i) d)))
