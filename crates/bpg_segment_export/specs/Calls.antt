-- What export of a file answers (request 10/13): "Export tags 1, 3 and 2, in that order, as application segments".
use Rattle.std.specs.Prelude.{Bool, ◌&&◌, List, [], ◌∷◌, ℕ, eqb, leb, length, get_or}
use Rattle.bpg_codec.specs.Select.{select}
use Rattle.bpg_codec.specs.Outcome.{Outcome, ◌>>=◌, guard}
use Rattle.bpg_format.specs.declared.record.Entry.{Entry}
use Rattle.bpg_format.specs.declared.answer.Written.{Written}
use Rattle.bpg_format.specs.Zero.{zero_entry}
use Rattle.bpg_format.specs.Records.{bytes_in, used_entries, read_file}
use Rattle.bpg_format.specs.Parts.{record_in}
use Rattle.bpg_format.specs.Write.{written_answer, written_buffer}
use Rattle.bpg_segment_rules.specs.Runs.{Payloads, payloads}
use Rattle.bpg_segment_rules.specs.Calls.{export_outcome}

-- the entries with this tag, in file order
unfoldable pub with_tag : (tag : ℕ) → List Entry → List Entry
with_tag t [] = []
with_tag t (e ∷ es) = select (eqb e.tag t) (e ∷ with_tag t es) (with_tag t es)

-- not "twice, empty or not"
abbrev pub at_most_one : List Entry → Bool
at_most_one es = leb (length es) 1

module _ (f : List ℕ) where
  abbrev pub tagged : (tag : ℕ) → List Entry
  tagged t = with_tag t (used_entries (record_in f))

  -- the payload of the entry with this tag; an absent one is empty. "No such prefix is looked for in a BPG payload"
  abbrev pub payload_with : (tag : ℕ) → List ℕ
  payload_with t = bytes_in f (get_or (tagged t) 0 zero_entry).payload

  abbrev pub payloads_in : Payloads
  payloads_in = payloads (payload_with 1) (payload_with 3) (payload_with 2)

  abbrev pub once_each : Bool
  once_each = at_most_one (tagged 1) && (at_most_one (tagged 3) && at_most_one (tagged 2))

  -- "Refusals, after the reader's: 35 one of these tags twice, empty or not; 34 ..; 20 last."
  unfoldable pub file_outcome : (capacity : ℕ) → Outcome (List ℕ)
  file_outcome capacity =
      guard (eqb (read_file f).status 0) (read_file f).status (read_file f).offset >>= λ _.
      guard once_each 35 0 >>= λ _.
      export_outcome capacity payloads_in

unfoldable pub export_segments : (f out : List ℕ) → Written
export_segments f out = written_answer (file_outcome f (length out))

-- the buffer afterwards
unfoldable pub exported_buffer : (f out : List ℕ) → List ℕ
exported_buffer f out = written_buffer (file_outcome f (length out)) out
