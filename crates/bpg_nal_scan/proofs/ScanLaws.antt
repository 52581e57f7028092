-- The scan of a unit by offsets: where no pattern is left, and what the next one does.
use mathlib.Core.Path.{◌≡◌, refl, sym, ap, ◌∙◌, subst}
use mathlib.Core.Bool.{true, false}
use Rattle.std.specs.Prelude.{Some, None}
use mathlib.Core.List.{List, [], ◌∷◌, ◌++◌, append-nil}
use Prim.Native.Nat.{ℕ, suc, ◌+◌, ◌≤◌, ◌<◌}
use native.Mathlib.Omega.{arith}
use lib.Dec.{eqb}
use lib.ListN.{length, take, drop, get_or, replicate, length-append, length-take, length-drop, take-append-drop, drop_of_length-le}
use lib.Seq.{drop-drop}
use borrow.Author.Tests.{eq-eqb, ne_eqb, le-leb, lt-leb, not-true, eqb-false}
use Rattle.bpg_codec.proofs.Lists.{either_way, drop-next}
use Rattle.bpg_codec.proofs.Select.{select-true, select-false}
use Rattle.bpg_nal_units.specs.Search.{offset_of, offset_from}
use Rattle.bpg_nal_units.specs.Units.{Nal, cut_at, starts_code, code_offset, trim_zeros, code_from, bytes_at}
use Rattle.bpg_nal_units.specs.Endings.{ends_zero}
use Rattle.bpg_nal_units.proofs.Cases.{by-test, by_equal}
use Rattle.bpg_nal_units.proofs.SearchLaws.{search-end, search-most, search-found}
use Rattle.bpg_nal_units.proofs.TrimLaws.{trim-none}
use Rattle.bpg_nal_units.proofs.UnitLaws.{cut-at, first-unit}
use Rattle.bpg_nal_units.specs.declared.cut.Cut.{Cut}
use Rattle.bpg_nal_emulation.specs.Emulation.{starts_pattern, keeps_rules}
use Rattle.bpg_nal_scan.specs.Scans.{not_zero, kept_cut, ended_at, scan_at}
use Rattle.bpg_nal_emulation.proofs.StretchLaws.{keeps-mark, keeps_high}
use Rattle.bpg_nal_emulation.proofs.OffsetLaws.{offset-is, room, there, next-there, bytes}
use Rattle.bpg_nal_emulation.proofs.RunLaws.{unit_of, Plain, code-after, code-past, code-run, code-zeros, unit-past, unit-run, unit-zeros, keeps-alone, keeps-after}
use Rattle.bpg_nal_scan.proofs.FirstPattern.{first-most, first-same, none-code, none_kept, zeros-run, plain, shut, kept-other}

-- ---- the answer

module _ (d : List ℕ) (i : ℕ) where
  scan-kept : (end code : ℕ) → end ≡ i + length (bytes_at d i) → code ≡ code_from d i → keeps_rules (bytes_at d i) ≡ true → kept_cut end code ≡ scan_at d i
  scan-kept end code e c k = rw (e, c) (sym (select-true _ _ k))

  scan-broken : keeps_rules (bytes_at d i) ≡ false → None ≡ scan_at d i
  scan-broken k = sym (select-false _ _ k)

scan-same : (d : List ℕ) (i j : ℕ) → code_from d i ≡ code_from d j → i + length (bytes_at d i) ≡ j + length (bytes_at d j)
    → keeps_rules (bytes_at d i) ≡ keeps_rules (bytes_at d j) → scan_at d i ≡ scan_at d j
scan-same d i j c e k =
    by-test (keeps_rules (bytes_at d j)) (λ t. sym (scan-kept d i _ _ refl refl (k ∙ t)) ∙ scan-kept d j _ _ e c t)
    (λ f. sym (scan-broken d i (k ∙ f)) ∙ scan-broken d j f)

-- what an answer says
module _ (d : List ℕ) (i : ℕ) where
  pub says-broken : None ≡ scan_at d i → keeps_rules (bytes_at d i) ≡ false
  says-broken e = by-test (keeps_rules (bytes_at d i)) (λ t. let f = e ∙ sym (scan-kept d i _ _ refl refl t) in cc) (λ g. g)

  pub says-kept : (x : Cut) → Some x ≡ scan_at d i → (keeps_rules (bytes_at d i) ≡ true) × (x ≡ cut_at d i)
  says-kept x e =
      by-test (keeps_rules (bytes_at d i)) (λ k. (k, (let f = e ∙ sym (scan-kept d i _ _ refl refl k) in cc)))
      (λ g. let f = e ∙ sym (scan-broken d i g) in cc)

-- ---- by offsets: no pattern is left from i on

module _ (d : List ℕ) (i p : ℕ) (e : p ≡ offset_from starts_pattern d i) (k : length d ≤ p) where
  no_more : i ≤ length d → length (drop i d) ≤ offset_of starts_pattern (drop i d)
  no_more h = let o = offset-is d i p h e in omega (arith, length-drop i d)

  last_code : code_from d i ≡ length d
  last_code =
      either_way i (length d)
      (λ h. cut-at d i h ∙ rw (none-code (drop i d) (no_more h), length-drop) (omega arith))
      (λ h. rw (drop_of_length-le d {i = i} (omega arith)) (let c = search-end starts_code in omega arith))

  last-kept : keeps_rules (bytes_at d i) ≡ true
  last-kept =
      either_way i (length d)
      (λ h. rw (sym (ap (λ (u : Nal). u.bytes) (first-unit d i h))) (none_kept (drop i d) (no_more h)))
      (λ h. rw (drop_of_length-le (take (code_from d i) d) {i = i} (rw length-take (omega arith)), trim-none)
      (keeps-alone [] [] (record { none = omega arith })))

  pub scan-last : (end : ℕ) → end ≡ i + length (trim_zeros (drop i (take (length d) d))) → kept_cut end (length d) ≡ scan_at d i
  scan-last end g =
      scan-kept d i end (length d) (g ∙ ap (λ (c : ℕ). i + length (trim_zeros (drop i (take c d)))) (sym last_code)) (sym last_code) last-kept

-- ---- one stands at p

module _ (d : List ℕ) (i p : ℕ) (e : p ≡ offset_from starts_pattern d i) (k : p < length d) where
  h : i ≤ length d
  h = omega arith

  pub room-there : (i ≤ p) × (p + 3 ≤ length d)
  room-there = room d i p h e k

  abbrev left : List ℕ
  left = drop i d

  abbrev before : List ℕ
  before = take (offset_of starts_pattern left) left

  some : offset_of starts_pattern left < length left
  some = let o = offset-is d i p h e in omega (arith, length-drop i d)

  size : i + length before ≡ p
  size = let o = offset-is d i p h e in let s = some in omega (arith, length-take (offset_of starts_pattern left) left)

  unit : bytes_at d i ≡ unit_of left
  unit = sym (ap (λ (u : Nal). u.bytes) (first-unit d i h))

  ends : ends_zero before ≡ false
  ends = shut left some _ refl

  module _ (r : List ℕ) (f : drop p d ≡ r) where
    whole : left ≡ before ++ r
    whole = sym (take-append-drop (offset_of starts_pattern left) left) ∙ ap (λ (x : List ℕ). before ++ x) (there d i p h e k ∙ f)

    clear : Plain before r
    clear = subst (Plain before) (there d i p h e k ∙ f) (plain left some)

    code-there : code_from d i ≡ p + code_offset r
    code-there = cut-at d i h ∙ ap (λ (x : List ℕ). i + code_offset x) whole ∙ (let c = code-after before r clear in let s = size in omega arith)

    -- the unit ends before it
    ends_there : unit_of (before ++ r) ≡ before → kept_cut p (p + code_offset r) ≡ scan_at d i
    ends_there g =
        let u = unit ∙ ap unit_of whole ∙ g in
        scan-kept d i p (p + code_offset r) (sym (ap (λ (x : List ℕ). i + length x) u ∙ size)) (sym code-there) (ap keeps_rules u ∙ keeps-alone before r clear)

  -- zeros up to the end
  scan-zeros : (z : ℕ) → drop p d ≡ replicate z 0 → kept_cut p (p + z) ≡ scan_at d i
  scan-zeros z f = rw (code-zeros z) at (ends_there (replicate z 0) f (unit-zeros before ends z (clear (replicate z 0) f)))

  -- zeros up to a start code
  scan-run : (z : ℕ) (m : List ℕ) → drop p d ≡ 0 ∷ 0 ∷ (replicate z 0 ++ (1 ∷ m)) → kept_cut p (p + z) ≡ scan_at d i
  scan-run z m f =
      rw (code-run z m) at (ends_there (0 ∷ 0 ∷ (replicate z 0 ++ (1 ∷ m))) f (unit-run before ends z m (clear _ f)))

  -- zeros, and a byte that may not come after them
  scan-other : (z x : ℕ) (m : List ℕ) → drop p d ≡ 0 ∷ 0 ∷ (replicate z 0 ++ (x ∷ m)) → 2 ≤ x → (get_or d (p + 2) 0 ≡ 3 → ⊥) → None ≡ scan_at d i
  scan-other z x m f g t =
      let v = replicate z 0 ++ (x ∷ unit_of m) in
      scan-broken d i
      (ap keeps_rules (unit ∙ ap unit_of (whole _ f) ∙ unit-past before ends (suc (suc z)) x m g (clear _ f))
      ∙ keeps-after before (replicate z 0 ++ (x ∷ m)) v (clear _ f)
      ∙ kept-other z x m (unit_of m) (get_or d (p + 2) 0) (ap (λ (l : List ℕ). get_or l 2 0) (sym f ∙ (bytes d i p h e k).0)) (bytes d i p h e k).1 t)

  -- no emulation prevention byte
  module _ (t : get_or d (p + 2) 0 ≡ 3 → ⊥) where
    abbrev past : ℕ
    past = offset_from not_zero d (p + 2)

    abbrev zeros : ℕ
    zeros = offset_of not_zero (drop (p + 2) d)

    past_is : past ≡ p + 2 + zeros
    past_is = let m = search-most not_zero (drop (p + 2) d) in let r = room d i p h e k in omega (arith, length-drop (p + 2) d)

    after-zeros : drop zeros (drop (p + 2) d) ≡ drop past d
    after-zeros = drop-drop zeros (p + 2) d ∙ ap (λ (j : ℕ). drop j d) (sym past_is)

    run : drop p d ≡ 0 ∷ 0 ∷ (replicate zeros 0 ++ drop past d)
    run =
        let b = (bytes d i p h e k).0 in
        let two : drop (p + 2) d ≡ get_or d (p + 2) 0 ∷ drop (p + 3) d = sym (drop-drop 2 p d) ∙ ap (drop 2) b in
        b ∙ ap (λ (x : List ℕ). 0 ∷ 0 ∷ x) (sym two ∙ zeros-run (drop (p + 2) d) ∙ ap (λ (x : List ℕ). replicate zeros 0 ++ x) after-zeros)

    ended-last : length d ≤ past → ended_at d p ≡ scan_at d i
    ended-last g =
        let none : drop past d ≡ [] = drop_of_length-le d {i = past} g in
        let code : past ≡ p + suc (suc zeros) = (let q = past_is in omega arith) in
        select-true _ _ (le-leb _ _ g) ∙ ap (kept_cut p) code
        ∙ scan-zeros (suc (suc zeros)) (run ∙ ap (λ (x : List ℕ). 0 ∷ 0 ∷ x) (ap (λ (x : List ℕ). replicate zeros 0 ++ x) none ∙ append-nil _))

    module _ (g : past < length d) where
      abbrev byte : ℕ
      byte = get_or d past 0

      more : drop past d ≡ byte ∷ drop (past + 1) d
      more = drop-next d past 0 g

      not-zero : byte ≡ 0 → ⊥
      not-zero =
          let q = past_is in
          let found = search-found not_zero (drop (p + 2) d) (rw length-drop (omega arith)) in
          eqb-false byte 0 (not-true (eqb byte 0) (rw (after-zeros ∙ more) at found))

      ended-more : ended_at d p ≡ scan_at d i
      ended-more =
          let f = run ∙ ap (λ (x : List ℕ). 0 ∷ 0 ∷ (replicate zeros 0 ++ x)) more in
          select-false _ _ (lt-leb _ _ g)
          ∙ by_equal byte 1
          (λ o. select-true _ _ (eq-eqb _ _ o) ∙ ap (kept_cut p) (let q = past_is in omega arith)
          ∙ scan-run zeros (drop (past + 1) d) (f ∙ ap (λ (x : ℕ). 0 ∷ 0 ∷ (replicate zeros 0 ++ (x ∷ drop (past + 1) d))) o))
          (λ o. select-false _ _ (ne_eqb _ _ o) ∙ scan-other zeros byte (drop (past + 1) d) f (let n = not-zero in omega arith) t)

    pub scan-ended : ended_at d p ≡ scan_at d i
    scan-ended = either_way (length d) past ended-last ended-more

  -- an emulation prevention byte
  module _ (t : get_or d (p + 2) 0 ≡ 3) where
    abbrev rest : List ℕ
    rest = drop (p + 3) d

    marked : drop p d ≡ 0 ∷ 0 ∷ 3 ∷ rest
    marked = rw t at (bytes d i p h e k).0

    over : bytes_at d i ≡ before ++ (0 ∷ 0 ∷ 3 ∷ unit_of rest)
    over = unit ∙ ap unit_of (whole _ marked) ∙ unit-past before ends 2 3 rest (omega arith) (clear _ marked)

    over-kept : keeps_rules (bytes_at d i) ≡ keeps_rules (0 ∷ 0 ∷ 3 ∷ unit_of rest)
    over-kept = ap keeps_rules over ∙ keeps-after before (3 ∷ rest) (3 ∷ unit_of rest) (clear _ marked)

    pub scan-high : 3 < get_or d (p + 3) 0 → None ≡ scan_at d i
    scan-high g = scan-broken d i (over-kept ∙ keeps_high (unit_of rest) (rw (first-same rest (λ z. omega (arith, next-there d i p h e k)), next-there d i p h e k) g))

    pub scan-on : get_or d (p + 3) 0 ≤ 3 → scan_at d i ≡ scan_at d (p + 3)
    scan-on g =
        let j = p + 3 in
        let r = (room d i p h e k).1 in
        let there : bytes_at d j ≡ unit_of rest = sym (ap (λ (u : Nal). u.bytes) (first-unit d j r)) in
        let first : get_or (unit_of rest) 0 0 ≤ 3 = (let f = first-most rest in omega (arith, next-there d i p h e k)) in
        scan-same d i j
        (code-there _ marked ∙ (let c = code-past 3 rest (omega arith) 2 in omega (arith, cut-at d j r)))
        (ap (λ (x : List ℕ). i + length x) over ∙ rw (length-append, there) (let s = size in omega arith))
        (over-kept ∙ keeps-mark (unit_of rest) first ∙ ap keeps_rules (sym there))
