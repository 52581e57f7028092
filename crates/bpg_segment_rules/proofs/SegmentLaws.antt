-- The laws of one segment.
use mathlib.Core.Path.{◌≡◌, refl, sym, ap, ap₂, ◌∙◌, subst}
use mathlib.Core.Bool.{Bool, true, false}
use mathlib.Core.List.{List, [], ◌∷◌, ◌++◌}
use Prim.Native.Nat.{ℕ, ◌+◌, ◌-◌, ◌*◌, ◌/◌, ◌%◌, ◌≤◌, ◌<◌}
use native.Mathlib.Omega.{arith}
use lib.Dec.{T, leb, eqb, eqb_refl}
use lib.ListN.{length, take, drop, get_or, length-append, length-drop, take-append-drop}
use lib.Seq.{take_at, drop_at, length-take-le, take-append_seam, drop-append_seam}
use borrow.Author.Tests.{le-leb, leb-true, eqb-true}
use Rattle.bpg_codec.specs.Lawful.{All, Byte}
use Rattle.bpg_codec.specs.Lists.{same}
use Rattle.bpg_codec.proofs.Select.{select-true, select-false, is_true}
use Rattle.bpg_codec.proofs.Lists.{same-equal, same_refl}
use Rattle.bpg_segment_rules.proofs.TestLaws.{and_split, and-false}
use Rattle.bpg_segment_rules.specs.Segments.{segment, field, opens, inside, after, holds, payload, part, take_part}

module _ (marker : ℕ) (body rest : List ℕ) where
  pub field-segment : field (segment marker body ++ rest) ≡ length body + 2
  unfolding field segment
  field-segment = omega arith

  less_two : field (segment marker body ++ rest) - 2 ≡ length body
  less_two = rw field-segment (omega arith)

  pub inside-segment : inside (segment marker body ++ rest) ≡ body
  unfolding inside segment
  inside-segment = take_at body rest _ (sym less_two)

  pub after-segment : after (segment marker body ++ rest) ≡ rest
  unfolding after segment
  after-segment = drop_at body rest _ (sym less_two)

  pub length-segment : length (segment marker body) ≡ length body + 4
  unfolding segment
  length-segment = omega arith

  first : eqb (get_or (segment marker body ++ rest) 0 0) 255 ≡ true
  unfolding segment
  first = refl

  second : eqb (get_or (segment marker body ++ rest) 1 0) marker ≡ true
  unfolding segment
  second = is_true _ (eqb_refl marker)

  fits-segment : field (segment marker body ++ rest) + 2 ≤ length (segment marker body ++ rest)
  fits-segment = rw (field-segment, length-append, length-segment) (omega arith)

  least-segment : 2 ≤ field (segment marker body ++ rest)
  least-segment = rw field-segment (omega arith)

  pub opens-segment : opens marker (segment marker body ++ rest) ≡ true
  unfolding opens
  opens-segment =
      let m : eqb (get_or (segment marker body ++ rest) 1 0) marker ≡ true = second in
      let f : eqb (get_or (segment marker body ++ rest) 0 0) 255 ≡ true = first in
      rw (f, m, le-leb _ _ least-segment, le-leb _ _ fits-segment)

-- what opens with a segment is the segment and what is left
module _ (marker : ℕ) where
  four : (c d : ℕ) (t : List ℕ) → c < 256 → d < 256 → (n : ℕ) → n ≡ c * 256 + d → 2 ≤ n → n + 2 ≤ 4 + length t
      → (255 ∷ marker ∷ c ∷ d ∷ t ≡ segment marker (take (n - 2) t) ++ drop (n - 2) t) × (length (take (n - 2) t) ≤ 65533)
  unfolding segment
  four c d t hc hd n e h k =
      let len : length (take (n - 2) t) ≡ n - 2 = length-take-le (n - 2) t (omega arith) in
      let hi : (n - 2 + 2) / 256 ≡ c = omega arith in
      let lo : (n - 2 + 2) % 256 ≡ d = omega arith in
      (rw (len, hi, lo, take-append-drop), omega arith)

  abbrev Opened : List ℕ → Type 0
  Opened l = (l ≡ segment marker (inside l) ++ after l) × (length (inside l) ≤ 65533)

  split : (l : List ℕ) → All Byte l → get_or l 0 0 ≡ 255 → get_or l 1 0 ≡ marker → 2 ≤ field l → field l + 2 ≤ length l → Opened l
  unfolding inside after field
  split [] h f m a b = absurd (omega arith)
  split (x ∷ []) h f m a b = absurd (omega arith)
  split (x ∷ y ∷ []) h f m a b = absurd (omega arith)
  split (x ∷ y ∷ z ∷ []) h f m a b = absurd (omega arith)
  split (x ∷ y ∷ z ∷ w ∷ t) h f m a b =
      let r = four z w t h.1.1.0 h.1.1.1.0 (z * 256 + w) refl a (omega arith) in
      (ap₂ (λ (p q : ℕ). p ∷ q ∷ z ∷ w ∷ t) f m ∙ r.0, r.1)

  pub opened : (l : List ℕ) → All Byte l → opens marker l ≡ true → Opened l
  unfolding opens
  opened l h t =
      let a = and_split (eqb (get_or l 0 0) 255) _ t in
      let b = and_split (eqb (get_or l 1 0) marker) _ a.1 in
      let c = and_split (leb 2 (field l)) _ b.1 in
      split l h (eqb-true _ _ a.0) (eqb-true _ _ b.0) (leb-true _ _ c.0) (leb-true _ _ c.1)

-- a segment with a prefix and a payload
module _ (marker : ℕ) (prefix p rest : List ℕ) where
  pub holds-segment : 0 < length p → holds marker prefix (segment marker (prefix ++ p) ++ rest) ≡ true
  unfolding holds
  holds-segment h =
      let s : same prefix prefix ≡ true = is_true _ (same_refl prefix) in
      let n : leb (length prefix + 1) (length (prefix ++ p)) ≡ true = le-leb (length prefix + 1) (length (prefix ++ p)) (rw length-append (omega arith)) in
      rw (opens-segment marker (prefix ++ p) rest, inside-segment, take-append_seam prefix p, s, n)

  pub payload-segment : payload prefix (segment marker (prefix ++ p) ++ rest) ≡ p
  unfolding payload
  payload-segment = rw (inside-segment, drop-append_seam prefix p)

module _ (marker : ℕ) (prefix : List ℕ) where
  -- nothing else holds it
  pub holds-none : holds marker prefix [] ≡ false
  unfolding holds opens
  holds-none = refl

  pub holds-other : (m : ℕ) (body rest : List ℕ) → same (take (length prefix) body) prefix ≡ false → holds marker prefix (segment m body ++ rest) ≡ false
  unfolding holds
  holds-other m body rest e = rw inside-segment (and-false (opens marker (segment m body ++ rest)) (same (take (length prefix) body) prefix) (leb (length prefix + 1) (length body)) e)

  abbrev Held : List ℕ → Type 0
  Held l = (l ≡ segment marker (prefix ++ payload prefix l) ++ after l) × (0 < length (payload prefix l)) × (length prefix + length (payload prefix l) ≤ 65533)

  pub held : (l : List ℕ) → All Byte l → holds marker prefix l ≡ true → Held l
  unfolding holds payload
  held l h t =
      let a = and_split (opens marker l) _ t in
      let b = and_split (same (take (length prefix) (inside l)) prefix) _ a.1 in
      let o = opened marker l h a.0 in
      let s : take (length prefix) (inside l) ≡ prefix = same-equal _ _ (subst T (sym b.0) tt) in
      let n : length prefix + 1 ≤ length (inside l) = leb-true _ _ b.1 in
      let d = length-drop (length prefix) (inside l) in
      let j : prefix ++ drop (length prefix) (inside l) ≡ inside l = ap (λ (x : List ℕ). x ++ drop (length prefix) (inside l)) (sym s) ∙ take-append-drop (length prefix) (inside l) in
      (o.0 ∙ ap (λ (x : List ℕ). segment marker x ++ after l) (sym j), omega arith, omega arith)

  pub part-some : (p : List ℕ) → 0 < length p → part marker prefix p ≡ segment marker (prefix ++ p)
  unfolding part
  part-some [] h = absurd (omega arith)
  part-some (x ∷ p) h = refl

  pub part_none : part marker prefix [] ≡ []
  unfolding part
  part_none = refl

  pub taken : (l : List ℕ) → holds marker prefix l ≡ true → take_part marker prefix l ≡ (payload prefix l, after l)
  unfolding take_part
  taken l e = select-true _ _ e

  pub passed : (l : List ℕ) → holds marker prefix l ≡ false → take_part marker prefix l ≡ ([], l)
  unfolding take_part
  passed l e = select-false _ _ e

  -- the two laws of a part
  pub part-decodes : (p rest : List ℕ) → holds marker prefix rest ≡ false → take_part marker prefix (part marker prefix p ++ rest) ≡ (p, rest)
  part-decodes [] rest e = rw part_none (passed rest e)
  part-decodes (x ∷ p) rest e =
      rw (part-some (x ∷ p) (omega arith))
      (taken _ (holds-segment marker prefix (x ∷ p) rest (omega arith))
      ∙ ap₂ (λ (a b : List ℕ). (a, b)) (payload-segment marker prefix (x ∷ p) rest) (after-segment marker (prefix ++ (x ∷ p)) rest))

  abbrev FoundPart : List ℕ → List ℕ × List ℕ → Type 0
  FoundPart l y = (l ≡ part marker prefix y.0 ++ y.1) × (length prefix + length y.0 ≤ 65533)

  found : (l : List ℕ) → All Byte l → length prefix ≤ 65533 → (b : Bool) → holds marker prefix l ≡ b → FoundPart l (take_part marker prefix l)
  found l h k true e =
      let y = held l h e in
      subst (FoundPart l) (sym (taken l e)) (rw (part-some (payload prefix l) y.1) y.0, y.2)
  found l h k false e = subst (FoundPart l) (sym (passed l e)) (rw part_none refl, omega arith)

  pub part-encodes : (l : List ℕ) → All Byte l → length prefix ≤ 65533 → FoundPart l (take_part marker prefix l)
  part-encodes l h k = found l h k (holds marker prefix l) refl
