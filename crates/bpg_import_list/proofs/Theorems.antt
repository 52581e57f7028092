-- The theorems of the lists.
use mathlib.Core.Path.{◌≡◌, sym, ap, ◌∙◌, subst}
use mathlib.Core.List.{List}
use Prim.Native.Nat.{ℕ}
use lib.ListN.{length}
use Rattle.bpg_codec.specs.Outcome.{Outcome, ok, ◌>>=◌}
use Rattle.bpg_codec.proofs.Outcome.{ok-injective}
use Rattle.bpg_format.specs.Limits.{max_file}
use Rattle.bpg_format.specs.declared.record.Record.{Record}
use Rattle.bpg_format.specs.Write.{write_outcome, written_answer, written_buffer, write_file, write_buffer, write_size}
use Rattle.bpg_import_list.specs.Fields.{list_record}
use Rattle.bpg_import_list.specs.Calls.{read_list, list_outcome, write_answer, write_bytes, size_answer}
use Rattle.bpg_import_list.specs.Typing.{Listable}
use Rattle.bpg_import_list.specs.Theorems.{ListOf, ListTheorems}
use Rattle.bpg_import_list.proofs.StatusLaws.{gives}
use Rattle.bpg_import_list.proofs.RecordLists.{record-given}
use Rattle.bpg_import_list.proofs.ListRecords.{listable, list_of}

from_list : (l : List ℕ) (r : Record) → read_list l ≡ ok r → Listable r × ListOf r l
from_list l r e =
    let g = gives l e in
    let is : list_record l ≡ r = ok-injective (sym g.is ∙ e) in
    subst (λ (x : Record). Listable x × ListOf x l) is (listable l g, list_of l g)

to-list : (l : List ℕ) (r : Record) → Listable r → ListOf r l → read_list l ≡ ok r
to-list l r t o = ap read_list o.is ∙ record-given r o.width o.height o.rest t

written : (r : Record) (l source out : List ℕ) → Listable r → ListOf r l
    → (write_answer l source out ≡ write_file r source out) × (write_bytes l source out ≡ write_buffer r source out)
unfolding write_answer write_bytes write_file write_buffer list_outcome
written r l source out t o =
    let e = ap (λ (m : Outcome Record). m >>= λ x. write_outcome (length out) x source) (to-list l r t o) in
    (ap written_answer e, ap (λ (x : Outcome (List ℕ)). written_buffer x out) e)

sized : (r : Record) (l source : List ℕ) → Listable r → ListOf r l → size_answer l source ≡ write_size r source
unfolding size_answer write_size list_outcome
sized r l source t o = ap (λ (m : Outcome Record). written_answer (m >>= λ x. write_outcome max_file x source)) (to-list l r t o)

pub list-theorems : ListTheorems
list-theorems = record { exactly = λ l r. (from_list l r, λ x. to-list l r x.0 x.1); written = written; sized = sized }
