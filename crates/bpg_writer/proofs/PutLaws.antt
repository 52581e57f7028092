-- Writes one after another are one write.
use mathlib.Core.Path.{◌≡◌, sym, ap, ap₂, ◌∙◌, subst}
use mathlib.Core.Bool.{Bool, true, false}
use mathlib.Core.List.{List, [], ◌++◌}
use Prim.Native.Nat.{ℕ, ◌+◌, ◌≤◌}
use native.Mathlib.Omega.{arith}
use lib.ListN.{length, length-append}
use Rattle.bpg_codec.specs.Select.{select}
use Rattle.bpg_codec.specs.Buffer.{written, written_end}
use Rattle.bpg_codec.proofs.Select.{select-true, select-false}
use Rattle.bpg_codec.proofs.Buffer.{length-splice, stored, stored-none, written-written}

-- what a write answers: the buffer after it, and the offset after what was written
abbrev pub Put : (out : List ℕ) (at : ℕ) (l after : List ℕ) (end : ℕ) → Type 0
Put out at l after end = (after ≡ written out at l) × (end ≡ written_end out at l)

module _ (out : List ℕ) (at : ℕ) where
  pub put-end : (l : List ℕ) {after : List ℕ} {end : ℕ} → at + length l ≤ length out → Put out at l after end
      → (end ≡ at + length l) × (length after ≡ length out)
  put-end l h p =
      let s = stored out at l h in
      (p.1 ∙ sym s.1, ap length (p.0 ∙ sym s.0) ∙ length-splice out at l h)

  pub put-none : at ≤ length out → Put out at [] out at
  put-none = stored-none out at

  pub put_same : {l m after : List ℕ} {end : ℕ} → l ≡ m → Put out at l after end → Put out at m after end
  put_same {after} {end} e p = subst (λ (x : List ℕ). Put out at x after end) e p

  -- a part that is left out
  pub put-absent : (t : Bool) (l : List ℕ) → t ≡ false → at + length (select t l []) ≤ length out → Put out at (select t l []) out at
  put-absent t l e h =
      let n = select-false {X = List ℕ} {b = t} l [] e in
      put_same (sym n) (put-none (omega (arith, h)))

  pub put-present : {t : Bool} (l : List ℕ) {after : List ℕ} {end : ℕ} → t ≡ true → Put out at l after end → Put out at (select t l []) after end
  put-present {t} l e p = put_same (sym (select-true {X = List ℕ} {b = t} l [] e)) p

  -- a part, and what follows it, which then fits the buffer
  pub put_then : (a b : List ℕ) {o1 o2 : List ℕ} {p1 p2 : ℕ} → at + length (a ++ b) ≤ length out → Put out at a o1 p1
      → (p1 + length b ≤ length o1 → Put o1 p1 b o2 p2) → Put out at (a ++ b) o2 p2
  put_then a b {o1} {p1} fits p next =
      let n = length-append a b in
      let e = put-end a (omega arith) p in
      let left : p1 + length b ≤ length o1 = omega (arith, e.0, e.1) in
      let q = next left in
      let s = stored out at (a ++ b) fits in (
        q.0 ∙ ap₂ (λ (o : List ℕ) (k : ℕ). written o k b) p.0 e.0 ∙ written-written out at a b (omega arith),
        q.1 ∙ sym (stored o1 p1 b left).1 ∙ omega (arith, e.0) ∙ s.1,
      )
