-- The steps over a unit's bytes: the content, the sums, and what is skipped.
use mathlib.Core.Path.{◌≡◌, refl, sym, ap, ◌∙◌}
use mathlib.Core.Bool.{true, false}
use mathlib.Core.List.{List, [], ◌∷◌}
use Prim.Native.Nat.{ℕ, min, ◌+◌, ◌-◌, ◌≤◌, ◌<◌, ◌^◌}
use native.Mathlib.Omega.{arith}
use lib.ListN.{length, drop, get_or, length-drop, drop_of_length-le}
use lib.Seq.{drop-drop}
use borrow.Author.Tests.{eq-eqb, ne_eqb}
use Rattle.bpg_codec.specs.Outcome.{ok, error}
use Rattle.bpg_bytes.specs.declared.position.Located.{Located}
use Rattle.bpg_codec.proofs.Lists.{drop-next}
use Rattle.bpg_codec.proofs.Select.{select-true, select-false}
use Rattle.bpg_nal_emulation.specs.Emulation.{zeros_after, is_mark, content_at}
use Rattle.bpg_nal_emulation.proofs.WalkLaws.{mark-no-zeros, un-end, un-mark, un-byte}
use Rattle.bpg_sei.specs.declared.content.Cursor.{Cursor}
use Rattle.bpg_sei.specs.Messages.{sum_from}
use Rattle.bpg_sei.specs.Steps.{left_at, passed, Stepped, Summed, Skipped}

-- ---- the content

module _ (u : List ℕ) (i z : ℕ) where
  content-end : length u ≤ i → content_at u i z ≡ []
  unfolding content_at
  content-end h = rw (drop_of_length-le u h) (un-end z)

  module _ (h : i < length u) where
    abbrev byte : ℕ
    byte = get_or u i 0

    content-mark : is_mark z byte ≡ true → content_at u i z ≡ content_at u (i + 1) 0
    unfolding content_at
    content-mark e = rw (drop-next u i 0 h) (un-mark z byte (drop (i + 1) u) e)

    content-byte : is_mark z byte ≡ false → content_at u i z ≡ byte ∷ content_at u (i + 1) (zeros_after z byte)
    unfolding content_at
    content-byte e = rw (drop-next u i 0 h) (un-byte z byte (drop (i + 1) u) e)

-- ---- a step

module _ (u : List ℕ) (c : Cursor) where
  abbrev at : ℕ
  at = c.at.0

  pub past_end : length u ≤ at → left_at u c ≡ []
  past_end h = content-end u at c.zeros h

  module _ (h : at < length u) (b : ℕ) (is : b ≡ get_or u at 0) where
    pub step-byte : is_mark c.zeros b ≡ false → Stepped u c (passed b at c.zeros)
    step-byte e = record { same = rw is (content-byte u at c.zeros h (rw is at e)); onward = record { further = omega arith; inside = omega arith } }

    module _ (e : is_mark c.zeros b ≡ true) where
      marked : left_at u c ≡ content_at u (at + 1) 0
      marked = content-mark u at c.zeros h (rw is at e)

      pub mark-last : length u ≤ at + 1 → left_at u c ≡ []
      mark-last k = marked ∙ content-end u (at + 1) 0 k

      pub step-mark : at + 1 < length u → (d : ℕ) → d ≡ get_or u (at + 1) 0 → Stepped u c (passed d (at + 1) 0)
      step-mark k d f =
          record {
            same = marked ∙ rw f (content-byte u (at + 1) 0 k (mark-no-zeros 0 (get_or u (at + 1) 0) (λ g. omega arith)));
            onward = record { further = omega arith; inside = omega arith };
          }

-- ---- a sum

pub sum-end : (v : ℕ) → sum_from [] v ≡ error 22 0
unfolding sum_from
sum-end v = refl

module _ (b : ℕ) (l : List ℕ) (v : ℕ) where
  pub sum_more : b ≡ 255 → sum_from (b ∷ l) v ≡ sum_from l (v + 255)
  unfolding sum_from
  sum_more e = select-true _ _ (eq-eqb b 255 e)

  pub sum-last : (b ≡ 255 → ⊥) → sum_from (b ∷ l) v ≡ ok (v + b, l)
  unfolding sum_from
  sum-last e = select-false _ _ (ne_eqb b 255 e)

-- reading a sum stands at d, with v so far; `value` is the smaller of v and 2^64 - 1
pub record Summing (u : List ℕ) (c d : Cursor) (value : ℕ) : Type 0 where
  pub v : ℕ
  pub value-is : value ≡ min v (2 ^ 64 - 1)
  pub same : sum_from (left_at u c) 0 ≡ sum_from (left_at u d) v
  pub no-back : c.at.0 ≤ d.at.0

pub summing : (u : List ℕ) (c : Cursor) → Summing u c c 0
summing u c = record { v = 0; value-is = omega arith; same = refl; no-back = omega arith }

module _ {u : List ℕ} {c d : Cursor} {value : ℕ} (s : Summing u c d value) where
  pub sum-none : left_at u d ≡ [] → sum_from (left_at u c) 0 ≡ error 22 0
  sum-none e = s.same ∙ rw e (sum-end s.v)

  module _ {x : Located ℕ Cursor} (w : Stepped u d x) (next : ℕ) (n : next ≡ min (value + x.value) (2 ^ 64 - 1)) where
    capped : next ≡ min (s.v + x.value) (2 ^ 64 - 1)
    capped = let e = s.value-is in omega arith

    pub sum-on : x.value ≡ 255 → Summing u c x.next next
    sum-on e =
        let o = w.onward.further in
        let b = s.no-back in
        record {
          v = s.v + 255;
          value-is = rw (← e) capped;
          same = s.same ∙ rw w.same (sum_more x.value (left_at u x.next) s.v e);
          no-back = omega arith;
        }

    pub sum-found : (x.value ≡ 255 → ⊥) → Summed u c (record { value = next; next = x.next })
    sum-found e =
        let o = w.onward.further in
        let b = s.no-back in
        record {
          v = s.v + x.value;
          value-is = capped;
          same = s.same ∙ rw w.same (sum-last x.value (left_at u x.next) s.v e);
          onward = record { further = omega arith; inside = w.onward.inside };
        }

-- ---- what is skipped

drop-one : (l : List ℕ) (k b : ℕ) (r : List ℕ) → drop k l ≡ b ∷ r → (drop (k + 1) l ≡ r) × (k < length l)
drop-one l k b r e = let n = sym (length-drop k l) ∙ ap length e in (sym (drop-drop 1 k l) ∙ ap (drop 1) e, omega arith)

pub skip-none : (u : List ℕ) (c : Cursor) → Skipped u c 0 c
skip-none u c = record { there = omega arith; same = refl; no-back = omega arith; stays = λ h. h }

module _ {u : List ℕ} {c d : Cursor} {n : ℕ} (s : Skipped u c n d) where
  pub skip-end : left_at u d ≡ [] → length (left_at u c) ≤ n
  skip-end e = let z = sym (length-drop n (left_at u c)) ∙ ap length (s.same ∙ e) in omega arith

  pub skip-on : {x : Located ℕ Cursor} → Stepped u d x → Skipped u c (n + 1) x.next
  skip-on {x} w =
      let o = w.onward.further in
      let b = s.no-back in
      let d1 = drop-one (left_at u c) n x.value (left_at u x.next) (s.same ∙ w.same) in
      record { there = omega (arith, d1.1); same = d1.0; no-back = omega arith; stays = λ _. w.onward.inside }
