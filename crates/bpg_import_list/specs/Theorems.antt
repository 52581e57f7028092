-- What is claimed of the lists, beside the calls' contracts: a record and its list stand for each other. `proofs/Theorems` proves it.
use Rattle.std.specs.Prelude.{◌≡◌, ◌↔◌, List, ◌++◌, ℕ}
use Rattle.bpg_codec.specs.Outcome.{ok}
use Rattle.bpg_format.specs.declared.record.Record.{Record}
use Rattle.bpg_format.specs.Write.{write_file, write_buffer, write_size}
use Rattle.bpg_export_list.specs.Numbers.{numbers_of}
use Rattle.bpg_import_list.specs.Calls.{read_list, write_answer, write_bytes, size_answer}
use Rattle.bpg_import_list.specs.Typing.{Listable}

-- a list with a record's numbers: with any coded size, and with any numbers after them
pub record ListOf (r : Record) (l : List ℕ) : Type 0 where
  pub width : ℕ
  pub height : ℕ
  pub rest : List ℕ
  pub is : l ≡ numbers_of r width height ++ rest

pub record ListTheorems : Type 0 where
  -- a list gives a record, and is not refused, exactly when it is the list of that record
  pub exactly : (l : List ℕ) (r : Record) → (read_list l ≡ ok r) ↔ (Listable r × ListOf r l)
  -- a record's list is written as the record is, and is as long
  pub written : (r : Record) (l source out : List ℕ) → Listable r → ListOf r l
      → (write_answer l source out ≡ write_file r source out) × (write_bytes l source out ≡ write_buffer r source out)
  pub sized : (r : Record) (l source : List ℕ) → Listable r → ListOf r l → size_answer l source ≡ write_size r source
