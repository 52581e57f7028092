-- What writing answers, by the plan and the buffer.
use mathlib.Core.Path.{◌≡◌, refl, sym, ap, ◌∙◌}
use mathlib.Core.Logic.{◌↔◌}
use mathlib.Core.List.{List, ◌++◌}
use Prim.Native.Nat.{ℕ, ◌+◌, ◌≤◌, ◌<◌}
use native.Mathlib.Omega.{arith}
use lib.ListN.{length, drop}
use borrow.Author.Tests.{le-leb, lt-leb}
use Rattle.bpg_codec.specs.Outcome.{Outcome, ok, error}
use Rattle.bpg_codec.specs.Lawful.{All, Byte}
use Rattle.bpg_codec.specs.Buffer.{written}
use Rattle.bpg_codec.proofs.Buffer.{stored}
use Rattle.bpg_format.specs.Limits.{max_file}
use Rattle.bpg_format.specs.declared.record.Record.{Record}
use Rattle.bpg_format.specs.declared.answer.Written.{Written}
use Rattle.bpg_format.specs.Zero.{refused_written}
use Rattle.bpg_format.specs.Syntax.{file_of}
use Rattle.bpg_format.specs.Records.{content_of}
use Rattle.bpg_format.specs.Write.{write_outcome, written_answer, written_buffer, write_file, write_buffer, write_size, Typed, Writable}
use Rattle.bpg_format.proofs.Requirements.{writing}
use Rattle.bpg_write_plan.specs.declared.plan.Plan.{Plan}
use Rattle.bpg_write_plan.specs.Plans.{Ready}

-- a success of so many bytes
abbrev success : ℕ → Written
success n = record { status = 0; offset = 0; count = n }

module _ (r : Record) (source : List ℕ) where
  abbrev file : List ℕ
  file = file_of (content_of r source)

  -- a buffer that holds the file
  outcome : (p : Plan) → Ready r source p → (capacity : ℕ) → p.layout.total ≤ capacity → write_outcome capacity r source ≡ ok file
  outcome p k capacity h = k.only-small capacity ∙ rw (le-leb (length file) capacity (omega (arith, h, k.total-is)))

  answer : (p : Plan) → Ready r source p → (capacity : ℕ) → p.layout.total ≤ capacity → success p.layout.total ≡ written_answer (write_outcome capacity r source)
  answer p k capacity h = ap success k.total-is ∙ ap written_answer (sym (outcome p k capacity h))

  -- ---- the size

  pub size-refused : (s : ℕ) → ((capacity : ℕ) → write_outcome capacity r source ≡ error s 0) → refused_written s 0 ≡ write_size r source
  unfolding write_size
  size-refused s e = ap written_answer (sym (e max_file))

  pub size_is : (p : Plan) → Ready r source p → (w : Written) → w ≡ success p.layout.total → w ≡ write_size r source
  unfolding write_size
  size_is p k w e = e ∙ answer p k max_file k.total-most

-- ---- writing into a buffer

module _ (r : Record) (source out : List ℕ) (t : Typed r) (b : All Byte source) where
  -- also that the status is 0 exactly when the record is writable
  pub record Exact (w : Written) (after : List ℕ) : Type 0 where
    pub value : w ≡ write_file r source out
    pub out_after : after ≡ write_buffer r source out
    pub variant : (w.status ≡ 0) ↔ Writable (length out) r source

  exact : (v w : Written) (after : List ℕ) → v ≡ w → w ≡ write_file r source out → after ≡ write_buffer r source out → Exact v after
  exact v w after f e a = let g = f ∙ e in record { value = g; out_after = a; variant = rw g (writing.exactly r source out t b) }

  by_outcome : (o : Outcome (List ℕ)) → write_outcome (length out) r source ≡ o → (v : Written) (after : List ℕ) → v ≡ written_answer o → after ≡ written_buffer o out → Exact v after
  unfolding write_file write_buffer
  by_outcome o e v after f a = exact v (written_answer o) after f (ap written_answer (sym e)) (a ∙ ap (λ (o : Outcome (List ℕ)). written_buffer o out) (sym e))

  pub refused : (s : ℕ) → ((capacity : ℕ) → write_outcome capacity r source ≡ error s 0) → (v : Written) → v ≡ refused_written s 0 → Exact v out
  refused s e v f = by_outcome (error s 0) (e (length out)) v out f refl

  module _ (p : Plan) (k : Ready r source p) where
    pub too_small : length out < p.layout.total → (v : Written) → v ≡ refused_written 20 0 → Exact v out
    too_small h v f = by_outcome (error 20 0) (k.only-small (length out) ∙ rw (lt-leb (length (file r source)) (length out) (omega (arith, h, k.total-is)))) v out f refl

    pub file-written : p.layout.total ≤ length out → (after : List ℕ) → after ≡ written out 0 (file r source) → (v : Written) → v ≡ success p.layout.total → Exact v after
    file-written h after e v f =
        let l = file r source in
        let n : 0 + length l ≡ length l = omega arith in
        by_outcome (ok l) (outcome r source p k (length out) h) v after (f ∙ ap success k.total-is)
        (e ∙ sym (stored out 0 l (omega (arith, h, k.total-is))).0 ∙ ap (λ (m : ℕ). l ++ drop m out) n)
