-- What the search for a tag answers.
use Rattle.std.specs.Prelude.{List, ℕ, get_or, Option, Some, None}
use Rattle.bpg_codec.specs.Select.{select}
use Rattle.bpg_format.specs.declared.record.Entry.{Entry}
use Rattle.bpg_format.specs.declared.record.Range.{Range}
use Rattle.bpg_format.specs.Zero.{zero_entry}
use Rattle.bpg_segment_export.specs.Calls.{with_tag, at_most_one}

-- the first entry's payload, unless there is a second entry
abbrev pub only_of : List Entry → Option Range
only_of es = select (at_most_one es) (Some (get_or es 0 zero_entry).payload) None

abbrev pub only_in : (tag : ℕ) → List Entry → Option Range
only_in tag es = only_of (with_tag tag es)
