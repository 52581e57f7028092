-- Stretches by offsets: from i up to the next pattern, which stands at p.
use mathlib.Core.Path.{◌≡◌, sym, ap, ◌∙◌}
use mathlib.Core.Bool.{Bool, true, false}
use mathlib.Core.List.{List, [], ◌∷◌, ◌++◌, append_assoc, append-nil}
use Prim.Native.Nat.{ℕ, ◌+◌, ◌-◌, ◌≤◌, ◌<◌}
use native.Mathlib.Nat.{add-zero}
use native.Mathlib.Omega.{arith}
use mir.Val.{bool_byte}
use lib.ListN.{length, take, drop, get_or, length-drop, length-append}
use lib.Seq.{drop-drop, get_or-drop, take-add, take_all, length-take-le}
use Rattle.bpg_codec.specs.Select.{select}
use Rattle.bpg_codec.proofs.Lists.{either_way}
use Rattle.bpg_codec.proofs.Select.{select-true, select-false}
use Rattle.bpg_nal_units.specs.Search.{offset_of, offset_from}
use Rattle.bpg_nal_units.proofs.Cases.{by-test, by_equal, one_answer}
use Rattle.bpg_nal_units.proofs.SearchLaws.{search-most, search-found}
use Rattle.bpg_nal_emulation.specs.Emulation.{unescape, escape, starts_pattern, keeps_rules}
use Rattle.bpg_nal_emulation.specs.Endings.{ends_open}
use Rattle.bpg_nal_emulation.proofs.PatternLaws.{pattern-bytes, pattern-room}
use Rattle.bpg_nal_emulation.proofs.LengthLaws.{un-same, es-same}
use Rattle.bpg_nal_emulation.proofs.StretchLaws.{un-stretch, un-tail, un-pattern, es-stretch, es-tail, es-pattern, keeps-stretch, keeps-tail, keeps-mark, keeps_high, keeps-other}

module _ (u : List ℕ) (i p : ℕ) (h : i ≤ length u) (e : p ≡ offset_from starts_pattern u i) where
  abbrev left : List ℕ
  left = drop i u

  abbrev n : ℕ
  n = offset_of starts_pattern left

  pub offset-is : p ≡ i + n
  offset-is = let m = search-most starts_pattern left in omega (arith, length-drop i u)

  whole : take (length u - i) left ≡ left
  whole = take_all (length u - i) left (rw length-drop (omega arith))

  -- no mark is left, as the lengths say
  pub un-rest : i + length (unescape left) ≡ length u → unescape left ≡ take (length u - i) left ++ []
  un-rest c = un-same left 0 (omega (arith, length-drop i u)) ∙ sym (append-nil _ ∙ whole)

  pub es-rest : i + length (escape left) ≡ length u → escape left ≡ take (length u - i) left ++ []
  es-rest c = es-same left 0 (omega (arith, length-drop i u)) ∙ sym (append-nil _ ∙ whole)

  -- no pattern is left
  module _ (k : length u ≤ p) where
    no_more : length left ≤ n
    no_more = let o = offset-is in omega (arith, length-drop i u)

    un-last : unescape left ≡ left
    un-last = un-tail left no_more

    es-last : escape left ≡ left ++ select (ends_open left) (3 ∷ []) []
    es-last = es-tail left no_more

    -- the mark that is left stands at the end
    pub es-open : length u < i + length (escape left) → escape left ≡ (take (length u - i) left ++ (3 ∷ [])) ++ []
    es-open c =
        by-test (ends_open left) (λ b. es-last ∙ rw (whole, select-true {X = List ℕ} (3 ∷ []) [] b) (sym (append-nil _)))
        (λ b.
        let l : length (escape left) ≡ length left = ap length (es-last ∙ ap (λ (x : List ℕ). left ++ x) (select-false _ _ b) ∙ append-nil left) in
        absurd (omega (arith, length-drop i u)))

    pub keeps-last : keeps_rules left ≡ true
    keeps-last = keeps-tail left no_more

  -- one stands at p, where a mark is left
  pub un-some : i + length (unescape left) < length u → p < length u
  un-some c = either_way (length u) p (λ k. absurd (let l = ap length (un-last k) in omega (arith, length-drop i u))) (λ k. k)

  module _ (k : p < length u) where
    one_more : n < length left
    one_more = let o = offset-is in omega (arith, length-drop i u)

    pub room : (i ≤ p) × (p + 3 ≤ length u)
    room = let o = offset-is in let r = pattern-room left one_more in (omega arith, omega (arith, length-drop i u))

    pub there : drop n left ≡ drop p u
    there = drop-drop n i u ∙ ap (λ (j : ℕ). drop j u) (sym offset-is)

    third-there : get_or (drop p u) 2 0 ≡ get_or u (p + 2) 0
    third-there = get_or-drop p u 2 0

    pub bytes : (drop p u ≡ 0 ∷ 0 ∷ get_or u (p + 2) 0 ∷ drop (p + 3) u) × (get_or u (p + 2) 0 < 4)
    bytes =
        let b = pattern-bytes (drop p u) (rw there at (search-found starts_pattern left one_more)) in
        (b.0 ∙ rw (third-there, drop-drop), rw third-there at b.1)

    -- up to and with 00 00
    front : take (p + 2 - i) left ≡ take n left ++ (0 ∷ 0 ∷ [])
    front =
        let o = offset-is in
        let j : p + 2 - i ≡ n + 2 = omega arith in
        rw (j, take-add) (ap (λ (x : List ℕ). take n left ++ take 2 x) (there ∙ bytes.0))

    pub next-there : get_or (drop (p + 3) u) 0 0 ≡ get_or u (p + 3) 0
    next-there = get_or-drop (p + 3) u 0 0 ∙ ap (λ (j : ℕ). get_or u j 0) (add-zero (p + 3))

    keeps-there : keeps_rules left ≡ keeps_rules (0 ∷ 0 ∷ get_or u (p + 2) 0 ∷ drop (p + 3) u)
    keeps-there = keeps-stretch left ∙ ap keeps_rules (there ∙ bytes.0)

    pub keeps-not-mark : (get_or u (p + 2) 0 ≡ 3 → ⊥) → keeps_rules left ≡ false
    keeps-not-mark d = keeps-there ∙ keeps-other (get_or u (p + 2) 0) (drop (p + 3) u) bytes.1 d

    module _ (t : get_or u (p + 2) 0 ≡ 3) where
      pub keeps_on : get_or u (p + 3) 0 ≤ 3 → keeps_rules left ≡ keeps_rules (drop (p + 3) u)
      keeps_on d = keeps-there ∙ rw t (keeps-mark (drop (p + 3) u) (rw next-there d))

      pub keeps-bad : 3 < get_or u (p + 3) 0 → keeps_rules left ≡ false
      keeps-bad d = keeps-there ∙ rw t (keeps_high (drop (p + 3) u) (rw next-there d))

      pub un-on : unescape left ≡ take (p + 2 - i) left ++ unescape (drop (p + 3) u)
      un-on =
          un-stretch left one_more
          ∙ rw (there, bytes.0, t, un-pattern (drop (p + 3) u), front, append_assoc)

    -- of a unit that keeps the rules
    pub kept-mark : keeps_rules left ≡ true → (get_or u (p + 2) 0 ≡ 3) × (keeps_rules (drop (p + 3) u) ≡ true)
    kept-mark g =
        by_equal (get_or u (p + 2) 0) 3
        (λ t. (t, either_way (get_or u (p + 3) 0) 3 (λ d. sym (keeps_on t d) ∙ g) (λ d. one_answer g (keeps-bad t d))))
        (λ d. one_answer g (keeps-not-mark d))

    pub es-on : escape left ≡ (take (p + 2 - i) left ++ (3 ∷ [])) ++ escape (drop (p + 2) u)
    es-on =
        let two : drop (p + 2) u ≡ get_or u (p + 2) 0 ∷ drop (p + 3) u = sym (drop-drop 2 p u) ∙ ap (drop 2) bytes.0 in
        es-stretch left one_more
        ∙ rw (there, bytes.0, es-pattern (get_or u (p + 2) 0) (drop (p + 3) u) bytes.1, front, two) (simp append_assoc)

  -- ---- how many bytes there are

  module _ (total marks : ℕ) where
    pub un-count-last : length u ≤ p → total + marks ≡ i + length (unescape left) → length u - marks ≡ total
    un-count-last k c = let l = ap length (un-last k) in omega (arith, length-drop i u)

    pub es-count-last : length u ≤ p → total ≡ i + marks + length (escape left) → (b : Bool) → b ≡ ends_open (take (length u - i) left)
        → length u + marks + bool_byte b ≡ total
    es-count-last k c b f =
        let l = ap length (es-last k) in
        let g : b ≡ ends_open left = f ∙ rw whole in
        by-test b
        (λ t.
        let s = l ∙ ap length (ap (λ (x : List ℕ). left ++ x) (select-true _ _ (sym g ∙ t))) ∙ length-append left (3 ∷ []) in
        rw t (omega (arith, length-drop i u)))
        (λ t.
        let s = l ∙ ap length (ap (λ (x : List ℕ). left ++ x) (select-false _ _ (sym g ∙ t))) ∙ length-append left [] in
        rw t (omega (arith, length-drop i u)))

    module _ (k : p < length u) where
      front_length : length (take (p + 2 - i) left) ≡ p + 2 - i
      front_length = let r = room k in length-take-le (p + 2 - i) left (rw length-drop (omega arith))

      pub un-count-on : get_or u (p + 2) 0 ≡ 3 → total + marks ≡ i + length (unescape left) → total + (marks + 1) ≡ p + 3 + length (unescape (drop (p + 3) u))
      un-count-on t c =
          let l = ap length (un-on k t) ∙ length-append (take (p + 2 - i) left) (unescape (drop (p + 3) u)) in
          let r = room k in
          omega (arith, front_length)

      pub es-count-on : total ≡ i + marks + length (escape left) → total ≡ p + 2 + (marks + 1) + length (escape (drop (p + 2) u))
      es-count-on c =
          let l = simp length-append at (ap length (es-on k)) in
          let r = room k in
          omega (arith, front_length)
