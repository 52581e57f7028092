-- The parts of a file that calls hand out (document 01, "The pieces delivered": payload by index): ranges of the record that reading gives.
-- A refused file has a zero record, and an index past the last entry the zero entry, so both give the empty range at 0.
use Rattle.std.specs.Prelude.{List, [], ◌∷◌, ◌++◌, map, ℕ, ◌+◌, ◌-◌, ◌≤◌, ◌<◌, length, take, drop, get_or}
use Rattle.bpg_format.specs.declared.record.Range.{Range}
use Rattle.bpg_format.specs.declared.record.Entry.{Entry}
use Rattle.bpg_format.specs.declared.record.Record.{Record}
use Rattle.bpg_format.specs.Zero.{range, zero_entry}
use Rattle.bpg_format.specs.Records.{bytes_in, used_entries, read_file}

abbrev pub record_in : List ℕ → Record
record_in f = (read_file f).«record»

-- entry k of a file, k from 0
unfoldable pub entry_of : List ℕ → ℕ → Entry
entry_of f k = get_or (used_entries (record_in f)) k zero_entry

unfoldable pub payload_of : List ℕ → ℕ → List ℕ
payload_of f k = bytes_in f (entry_of f k).payload

unfoldable pub data_of : List ℕ → List ℕ
data_of f = bytes_in f (record_in f).«data»

-- ---- payloads and data lie in order

-- the payloads of the entries in use, and the data
abbrev pub ranges_of : Record → List Range
ranges_of r = map (λ (e : Entry). e.payload) (used_entries r) ++ (r.«data» ∷ [])

abbrev pub range_end : Range → ℕ
range_end r = r.start + r.length

-- of any two the earlier ends at or before the later starts, and all end within the file
pub record InOrder (rs : List Range) (size : ℕ) : Type 0 where
  pub apart : (i j : ℕ) → i < j → j < length rs → range_end (get_or rs i (range 0 0)) ≤ (get_or rs j (range 0 0)).start
  pub within : (i : ℕ) → i < length rs → range_end (get_or rs i (range 0 0)) ≤ size

-- the bytes of a file from p on: what lies before each range, the range, and what follows the last
abbrev pub joined : (p : ℕ) → List Range → List ℕ → List ℕ
joined p [] f = drop p f
joined p (r ∷ rs) f = take (r.start - p) (drop p f) ++ (bytes_in f r ++ joined (range_end r) rs f)

-- an offset that lies in a range
pub record Inside (offset : ℕ) (r : Range) : Type 0 where
  pub after-start : r.start ≤ offset
  pub before-end : offset < range_end r
