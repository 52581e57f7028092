-- A turn of the loop over the table.
use mathlib.Core.Path.{◌≡◌, refl, sym, ap, ◌∙◌}
use mathlib.Core.Bool.{Bool, true, false}
use mathlib.Core.List.{List}
use Prim.Native.Nat.{ℕ, zero, suc, ◌+◌, ◌-◌, ◌≤◌, ◌<◌}
use native.Mathlib.Omega.{arith}
use lib.ListN.{get_or, set}
use lib.Seq.{set-get_or}
use borrow.Author.Tests.{eq-eqb, ne_eqb}
use Rattle.bpg_codec.specs.Outcome.{Outcome, ok, error, ◌>>=◌}
use Rattle.bpg_codec.specs.Codec.{Codec, decode_at}
use Rattle.bpg_codec.specs.Parts.{absent}
use Rattle.bpg_codec.proofs.Select.{select-false}
use Rattle.bpg_codec.proofs.Outcome.{error-not-ok}
use Rattle.std.specs.Prelude.{Option, None}
use Rattle.bpg_bytes.specs.declared.position.BitPos.{BitPos}
use Rattle.bpg_bytes.specs.declared.position.Located.{Located}
use Rattle.bpg_bits.specs.Answers.{bit_outcome, bit_answer}
use Rattle.bpg_read_fields.specs.Table.{widths, gates, field_codec, field_at, values_from, values_answer}

module _ (bits : List Bool) where
  pub values-none : (v : List ℕ) (p : ℕ) → values_from bits 0 v p ≡ ok (v, p)
  unfolding values_from
  values-none v p = refl

  pub values-suc : (n : ℕ) (v : List ℕ) (p : ℕ)
      → values_from bits (suc n) v p ≡ (decode_at bits (field_at (24 - n) v) 0 p >>= λ x. values_from bits n (set v (24 - n) x.0) x.1)
  unfolding values_from
  values-suc n v p = refl

  pub values-end : (k : ℕ) (v : List ℕ) (p : ℕ) → 25 ≤ k → values_from bits (25 - k) v p ≡ ok (v, p)
  values-end k v p h = let e : 25 - k ≡ 0 = omega arith in rw e (values-none v p)

  values-next : (k : ℕ) (v : List ℕ) (p : ℕ) → k < 25
      → values_from bits (25 - k) v p ≡ (decode_at bits (field_at k v) 0 p >>= λ x. values_from bits (25 - (k + 1)) (set v k x.0) x.1)
  values-next k v p h =
      let e : 25 - k ≡ suc (24 - k) = omega arith in
      let i : 24 - (24 - k) ≡ k = omega arith in
      let n : 25 - (k + 1) ≡ 24 - k = omega arith in
      ap (λ (n : ℕ). values_from bits n v p) e ∙ values-suc (24 - k) v p ∙ rw (i, n)

  pub field-absent : (p w : ℕ) {b : Bool} → b ≡ false → decode_at bits (field_codec b w) 0 p ≡ ok (0, p)
  unfolding absent
  field-absent p w g = rw (select-false {X = Codec Bool ℕ} _ (absent 0) g)

  module _ (v : List ℕ) (p : ℕ) where
    pub values-present : (k : ℕ) → k < 25 → get_or v (get_or gates k 0) 0 ≡ 1
        → values_from bits (25 - k) v p ≡ (decode_at bits (field_codec true (get_or widths k 0)) 0 p >>= λ x. values_from bits (25 - (k + 1)) (set v k x.0) x.1)
    values-present k h g = values-next k v p h ∙ rw (eq-eqb (get_or v (get_or gates k 0) 0) 1 g)

    -- a field that is absent, and whose value is 0 already
    abbrev Absent : ℕ → Type 0
    Absent k = (k < 25) × (get_or v (get_or gates k 0) 0 ≡ 1 → ⊥) × (get_or v k 0 ≡ 0)

    values-absent : (k : ℕ) → Absent k → values_from bits (25 - k) v p ≡ values_from bits (25 - (k + 1)) v p
    values-absent k h =
        let kept : set v k 0 ≡ v = ap (set v k) (sym h.2) ∙ set-get_or v k 0 in
        values-next k v p h.0 ∙ rw (field-absent p (get_or widths k 0) (ne_eqb (get_or v (get_or gates k 0) 0) 1 h.1), kept)

    -- n of them, up to e
    pub all-absent : (e n k : ℕ) → n + k ≡ e → ((i : ℕ) → k ≤ i → i < e → Absent i) → values_from bits (25 - k) v p ≡ values_from bits (25 - e) v p
    all-absent e zero k m f = let h : k ≡ e = omega arith in ap (λ (i : ℕ). values_from bits (25 - i) v p) h
    all-absent e (suc n) k m f = values-absent k (f k (omega arith) (omega arith)) ∙ all-absent e n (k + 1) (omega arith) (λ i a b. f i (omega arith) b)

-- a field that is missing ends it
pub missing-ends : (r : Option (Located ℕ BitPos)) (o : Outcome (ℕ × ℕ)) → r ≡ bit_answer o → r ≡ None → (k : ℕ × ℕ → Outcome (List ℕ × ℕ))
    → None ≡ values_answer (o >>= k)
missing-ends r (ok x) e m k = absurd (error-not-ok (ap (bit_outcome 0) (sym m ∙ e)))
missing-ends r (error s p) e m k = refl
