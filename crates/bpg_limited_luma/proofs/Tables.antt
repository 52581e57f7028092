-- A table's rule at each entry, by one test over the whole table that antt computes.
use mathlib.Core.Path.{◌≡◌, ◌∙◌, subst, sym}
use mathlib.Core.Bool.{Bool, true, ◌&&◌}
use mathlib.Core.List.{List, [], ◌∷◌}
use Prim.Native.Nat.{ℕ, zero, suc, ◌+◌, ◌<◌}
use native.Mathlib.Nat.{add-zero, zero-add, add-suc, suc-add}
use native.Mathlib.Omega.{arith}
use lib.Dec.{T, eqb, eqb→eq}
use lib.ListN.{length, get_or}
use Rattle.bpg_codec.proofs.Select.{and_left, and_right}
use Rattle.bpg_limited_luma.specs.Tables.{TableOf}

-- each entry is f of its index, counted from i
abbrev pub values_from : (f : ℕ → ℕ) (i : ℕ) → List ℕ → Bool
values_from f i [] = true
values_from f i (x ∷ l) = eqb x (f i) && values_from f (suc i) l

at : (f : ℕ → ℕ) (l : List ℕ) (i : ℕ) → T (values_from f i l) → (k : ℕ) → k < length l → get_or l k 0 ≡ f (i + k)
at f [] i t k h = absurd (omega arith)
at f (x ∷ l) i t zero h = subst (λ (n : ℕ). x ≡ f n) (sym (add-zero i)) (eqb→eq x (f i) (and_left (eqb x (f i)) (values_from f (suc i) l) t))
at f (x ∷ l) i t (suc k) h =
    subst (λ (n : ℕ). get_or l k 0 ≡ f n) (suc-add i k ∙ sym (add-suc i k)) (at f l (suc i) (and_right (eqb x (f i)) (values_from f (suc i) l) t) k (omega arith))

pub tested : (n : ℕ) (f : ℕ → ℕ) (table : List ℕ) → length table ≡ n → T (values_from f 0 table) → TableOf n f table
tested n f table e t = record { size = e; value = λ k h. subst (λ (i : ℕ). get_or table k 0 ≡ f i) (zero-add k) (at f table 0 t k (rw e h)) }
