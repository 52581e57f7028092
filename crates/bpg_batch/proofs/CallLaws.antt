-- The batch, complete or refused.
use mathlib.Core.Path.{◌≡◌, refl, sym, ◌∙◌}
use mathlib.Core.Bool.{Bool, true, false}
use mathlib.Core.List.{List, [], ◌∷◌}
use Prim.Native.Nat.{ℕ}
use lib.Dec.{eqb}
use lib.ListN.{length}
use borrow.Author.Tests.{eq-eqb, eqb-true}
use Rattle.bpg_codec.specs.Outcome.{ok, error}
use Rattle.bpg_format.specs.declared.answer.Written.{Written}
use Rattle.bpg_format.specs.Zero.{refused_written}
use Rattle.bpg_format.proofs.RuleLaws.{bool-apart}
use Rattle.bpg_batch.specs.Batches.{files, sum, statuses_of, offsets_of, batch_outcome, batch_statuses, batch_offsets, batch_answer, Complete}

pub files-count : (lengths buffer : List ℕ) → length (files lengths buffer) ≡ length lengths
unfolding files
files-count [] buffer = refl
files-count (n ∷ ns) buffer = rw (files-count ns _)

module _ (buffer lengths statuses offsets : List ℕ) where
  pub complete-or-refused : {P : Type 0} → (Complete buffer lengths statuses offsets → P) → (batch_outcome buffer lengths statuses offsets ≡ error 30 0 → P) → P
  unfolding batch_outcome
  complete-or-refused {P} f g = by (eqb (length statuses) (length lengths)) refl (eqb (length offsets) (length lengths)) refl (eqb (sum lengths) (length buffer)) refl
    where
      by : (x : Bool) → eqb (length statuses) (length lengths) ≡ x → (y : Bool) → eqb (length offsets) (length lengths) ≡ y
          → (z : Bool) → eqb (sum lengths) (length buffer) ≡ z → P
      by false d y e z s = g (rw d)
      by true d false e z s = g (rw (d, e))
      by true d true e false s = g (rw (d, e, s))
      by true d true e true s = f (record { as-many-statuses = eqb-true _ _ d; as-many-offsets = eqb-true _ _ e; adds-up = eqb-true _ _ s })

  -- what the call answers, and the two lists after it
  abbrev Answers : Written → (statuses offsets : List ℕ) → Type 0
  Answers x ss os =
      (x ≡ batch_answer buffer lengths statuses offsets) × ((ss ≡ batch_statuses buffer lengths statuses offsets) × (os ≡ batch_offsets buffer lengths statuses offsets))

  pub refused-answers : batch_outcome buffer lengths statuses offsets ≡ error 30 0 → Answers (refused_written 30 0) statuses offsets
  unfolding batch_answer batch_statuses batch_offsets
  refused-answers e = (rw e, (rw e, rw e))

  pub not-complete : (x : Written) → x ≡ refused_written 30 0 → (Complete buffer lengths statuses offsets → ⊥) → Answers x statuses offsets
  not-complete x r n = complete-or-refused (λ c. absurd (n c)) λ e. let a = refused-answers e in (r ∙ a.0, a.1)

  module _ (c : Complete buffer lengths statuses offsets) where
    complete-outcome : batch_outcome buffer lengths statuses offsets ≡ ok (files lengths buffer)
    unfolding batch_outcome
    complete-outcome =
        rw (
          eq-eqb (length statuses) (length lengths) c.as-many-statuses,
          eq-eqb (length offsets) (length lengths) c.as-many-offsets,
          eq-eqb (sum lengths) (length buffer) c.adds-up,
        )

    pub complete-answers : Answers (record { status = 0; offset = 0; count = length lengths }) (statuses_of (files lengths buffer)) (offsets_of (files lengths buffer))
    unfolding batch_answer batch_statuses batch_offsets
    complete-answers = (rw (complete-outcome, files-count lengths buffer), (rw complete-outcome, rw complete-outcome))

-- ---- b is the answer to whether the lengths add up

module _ (size total : ℕ) (b : Bool) (e : b ≡ eqb size total) where
  pub they-miss : b ≡ false → size ≡ total → ⊥
  they-miss n s = bool-apart (eq-eqb size total s) (sym e ∙ n)

  pub they-add-up : b ≡ true → size ≡ total
  they-add-up n = eqb-true size total (sym e ∙ n)
