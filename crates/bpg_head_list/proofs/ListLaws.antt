-- What the list of a head answers in each case.
use mathlib.Core.Path.{◌≡◌, sym, ap, ◌∙◌, subst}
use mathlib.Core.Logic.{◌≢◌}
use mathlib.Core.List.{List}
use Prim.Native.Nat.{ℕ, ◌≤◌, ◌<◌}
use native.Mathlib.Omega.{arith}
use lib.ListN.{length}
use borrow.Author.Tests.{le-leb, lt-leb, ne_eqb}
use Rattle.bpg_codec.specs.Outcome.{Outcome, ok, error}
use Rattle.bpg_codec.specs.Buffer.{written}
use Rattle.bpg_codec.proofs.Buffer.{stored}
use Rattle.bpg_format.specs.declared.answer.Written.{Written}
use Rattle.bpg_format.specs.Zero.{refused_written}
use Rattle.bpg_format.specs.Read.{read_head}
use Rattle.bpg_format.specs.Write.{written_answer, written_buffer}
use Rattle.bpg_read_head.specs.declared.head.Head.{Head as PlacedHead}
use Rattle.bpg_read_head.specs.Heads.{head_fields}
use Rattle.bpg_head_rules.specs.Calls.{fields_of, head_reading, head_file, head_numbers, HeadStatus}
use Rattle.bpg_head_rules.proofs.HeadRefusals.{head-refuses}
use Rattle.bpg_head_list.specs.Calls.{head_listed, head_answer, head_buffer}

module _ (f numbers : List ℕ) where
  -- the answer, and the list after it
  abbrev Answers : Written → List ℕ → Type 0
  Answers w after = (w ≡ head_answer f numbers) × (after ≡ head_buffer f numbers)

  by-outcome : (o : Outcome (List ℕ)) → head_listed (length numbers) (head_reading (read_head f)) ≡ o → Answers (written_answer o) (written_buffer o numbers)
  unfolding head_answer head_buffer head_file
  by-outcome o k = (ap written_answer (sym k), ap (λ (x : Outcome (List ℕ)). written_buffer x numbers) (sym k))

  pub head-refused : (s o : ℕ) → error s o ≡ read_head f → Answers (refused_written s o) numbers
  head-refused s o e =
      let n : s ≢ 0 = λ z. subst HeadStatus z (head-refuses f s o (sym e)) in
      by-outcome (error s o) (rw (← e, ne_eqb s 0 n))

  module _ (h : PlacedHead) (e : ok (head_fields h) ≡ read_head f) where
    pub list-short : length numbers < 12 → Answers (refused_written 20 0) numbers
    list-short k = by-outcome (error 20 0) (rw (← e, lt-leb 12 (length numbers) k))

    pub list_written : 12 ≤ length numbers → (part after : List ℕ) → part ≡ head_numbers (fields_of h) → after ≡ written numbers 0 part
        → Answers (record { status = 0; offset = 0; count = 12 }) after
    list_written k part after p w =
        let l = head_numbers (fields_of h) in
        let s = by-outcome (ok l) (rw (← e, le-leb 12 (length numbers) k)) in
        (s.0, w ∙ ap (written numbers 0) p ∙ sym (stored numbers 0 l (omega arith)).0 ∙ s.1)
