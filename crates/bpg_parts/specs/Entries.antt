-- An entry by its index (document 01, "The pieces delivered").
use Rattle.std.specs.Prelude.{Option, Some, None, List, ℕ, ltb}
use Rattle.bpg_codec.specs.Select.{select}
use Rattle.bpg_format.specs.Records.{read_file}
use Rattle.bpg_format.specs.Parts.{entry_of}
use Rattle.bpg_format.specs.declared.record.Entry.{Entry}

-- an index past the last entry has none; a refused file's count is 0
abbrev pub entry_answer : List ℕ → ℕ → Option Entry
entry_answer f k = select (ltb k (read_file f).«record».entry_count) (Some (entry_of f k)) None
