-- Lengths taken from a size, one after the other.
use mathlib.Core.Path.{◌≡◌, refl, sym, ap, ◌∙◌}
use mathlib.Core.Bool.{false}
use mathlib.Core.List.{List}
use Prim.Native.Nat.{ℕ, ◌+◌, ◌-◌, ◌≤◌, ◌<◌}
use native.Mathlib.Omega.{arith}
use lib.Dec.{eqb}
use lib.ListN.{length, drop, get_or, drop_of_length-le}
use borrow.Author.Tests.{eq-eqb, ne_eqb}
use Rattle.bpg_codec.proofs.Lists.{either_way, drop-next}
use Rattle.bpg_batch.specs.Batches.{sum}

pub sum-next : (l : List ℕ) (k : ℕ) → k < length l → sum (drop k l) ≡ get_or l k 0 + sum (drop (k + 1) l)
unfolding sum
sum-next l k h = ap sum (drop-next l k 0 h)

sum-none : (l : List ℕ) (k : ℕ) → length l ≤ k → sum (drop k l) ≡ 0
unfolding sum
sum-none l k h = ap sum (drop_of_length-le l {i = k} h)

-- the loop's invariant: what is left of the size, when k lengths have been taken from it
pub record Left (l : List ℕ) (size left k : ℕ) : Type 0 where
  pub within : k ≤ length l
  pub balance : left + sum l ≡ size + sum (drop k l)

module _ (l : List ℕ) (size : ℕ) where
  pub none-taken : Left l size size 0
  none-taken = record { within = omega arith; balance = refl }

  module _ (left k : ℕ) (c : Left l size left k) where
    pub too_long : k < length l → left < get_or l k 0 → false ≡ eqb (sum l) size
    too_long h t = sym (ne_eqb (sum l) size λ e. omega (arith, sum-next l k h, c.balance))

    pub next-taken : k < length l → get_or l k 0 ≤ left → Left l size (left - get_or l k 0) (k + 1)
    next-taken h t = record { within = omega arith; balance = omega (arith, sum-next l k h, c.balance) }

    pub all-taken : length l ≤ k → eqb left 0 ≡ eqb (sum l) size
    all-taken h = either_way left 0 (λ z. eq-eqb left 0 (omega arith) ∙ sym (eq-eqb (sum l) size (omega (arith, c.balance, sum-none l k h))))
        (λ p. ne_eqb left 0 (λ e. omega arith) ∙ sym (ne_eqb (sum l) size λ e. omega (arith, c.balance, sum-none l k h)))
