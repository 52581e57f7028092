-- A buffer that holds the result of a rule at each index holds the rule's result over the plane: for one plane, two and three.
use mathlib.Core.Path.{◌≡◌, sym, ◌∙◌}
use mathlib.Core.List.{List, map, zip_with}
use mathlib.Core.Logic.{◌≢◌}
use Prim.Native.Nat.{ℕ, ◌+◌, ◌<◌}
use native.Mathlib.Omega.{arith}
use lib.ListN.{length, get_or, set, length-map}
use Rattle.std.proofs.Common.{get_or-set_other, get_or-set_same, below_more}
use Rattle.std.proofs.lemmas.List.{ext_get_or}
use Rattle.bpg_sample_rules.specs.Planes.{zip_with3}
use Rattle.bpg_sample_rules.proofs.Planes.{map_at, zip_length, zip-at, zip3-length, zip3-at}

-- one sample more
pub filled_more : (f : ℕ → ℕ) (out : List ℕ) (i : ℕ) {v : ℕ} → i < length out → ((k : ℕ) → k < i → get_or out k 0 ≡ f k) → v ≡ f i
    → (k : ℕ) → k < i + 1 → get_or (set out i v) k 0 ≡ f k
filled_more f out i {v} h below e =
    below_more (λ k. get_or (set out i v) k 0 ≡ f k) i (λ k l. let n : k ≢ i = omega arith in rw get_or-set_other (below k l)) (rw get_or-set_same e)

filled : {out result : List ℕ} {n : ℕ} → length out ≡ n → length result ≡ n → ((i : ℕ) → i < n → get_or out i 0 ≡ get_or result i 0) → out ≡ result
filled {out} {result} e k f = ext_get_or 0 out result (e ∙ sym k) λ i h. f i (omega arith)

pub map_filled : (rule : ℕ → ℕ) (a : List ℕ) {out : List ℕ} → length out ≡ length a
    → ((i : ℕ) → i < length a → get_or out i 0 ≡ rule (get_or a i 0)) → out ≡ map rule a
map_filled rule a e f = filled e (length-map a rule) λ i h. f i h ∙ sym (map_at rule a i h)

pub zip_filled : (rule : ℕ → ℕ → ℕ) (a b : List ℕ) {out : List ℕ} → length b ≡ length a → length out ≡ length a
    → ((i : ℕ) → i < length a → get_or out i 0 ≡ rule (get_or a i 0) (get_or b i 0)) → out ≡ zip_with rule a b
zip_filled rule a b k e f = filled e (zip_length rule a b k) λ i h. f i h ∙ sym (zip-at rule a b i k h)

pub zip3_filled : (rule : ℕ → ℕ → ℕ → ℕ) (a b c : List ℕ) {out : List ℕ} → length b ≡ length a → length c ≡ length a → length out ≡ length a
    → ((i : ℕ) → i < length a → get_or out i 0 ≡ rule (get_or a i 0) (get_or b i 0) (get_or c i 0)) → out ≡ zip_with3 rule a b c
zip3_filled rule a b c k l e f = filled e (zip3-length rule a b c k l) λ i h. f i h ∙ sym (zip3-at rule a b c i k l h)
