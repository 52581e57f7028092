-- What is claimed of the calls over lists, beside their contracts: what was read can be written. `proofs/Theorems` proves it.
use Rattle.std.specs.Prelude.{◌≡◌, List, ℕ}
use Rattle.bpg_codec.specs.Lawful.{All, Byte}
use Rattle.bpg_format.specs.Records.{read_file}
use Rattle.bpg_import_list.specs.Typing.{Listable}
use Rattle.bpg_import_list.specs.Theorems.{ListOf}
use Rattle.bpg_export_read.specs.Calls.{read_answer, read_numbers}

-- the record of a file is one that a list can give, and the list that reading leaves is that record's; so it is written as the record is
-- (`ListTheorems` of bpg_import_list)
pub record CallTheorems : Type 0 where
  pub reading : (f : List ℕ) → All Byte f → Listable (read_file f).«record»
  pub read : (f numbers : List ℕ) → (read_answer f numbers).status ≡ 0 → ListOf (read_file f).«record» (read_numbers f numbers)
