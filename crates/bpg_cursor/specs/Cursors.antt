-- A cursor over the entries of a file (document 01, "The pieces delivered": the walker), and that it yields the file's entries in order.
use Rattle.std.specs.Prelude.{◌≡◌, ◌≢◌, Option, Some, None, List, ℕ, zero, suc, ◌+◌, ◌≤◌, ◌<◌, length, take, get_or}
use Rattle.std.specs.Borrow.{Bor}
use Rattle.bpg_codec.specs.Outcome.{Outcome, ok, error, Decoded}
use Rattle.bpg_codec.specs.Lawful.{All, Byte}
use Rattle.bpg_bytes.specs.Positions.{byte_pos}
use Rattle.bpg_format.specs.declared.record.Entry.{Entry}
use Rattle.bpg_format.specs.Zero.{range, zero_entry}
use Rattle.bpg_format.specs.Content.{Content}
use Rattle.bpg_format.specs.Syntax.{block_bytes, file_of}
use Rattle.bpg_format.specs.Rules.{Rules}
use Rattle.bpg_format.specs.Records.{entries_at, block_start, read_file}
use Rattle.bpg_read_entries.specs.Entries.{EntryHead, entry_in}
use Rattle.bpg_parts.specs.Entries.{entry_answer}
use Rattle.bpg_parts.specs.Bounds.{block_bounds}
use Rattle.bpg_cursor.specs.declared.cursor.Cursor.{Cursor}
use Rattle.bpg_cursor.specs.declared.step.Step.{Step}

-- ---- one step

-- by what is read at p: the entry, and the offset after it; or none, and p
abbrev pub step_of : (p : ℕ) → Outcome (Decoded ℕ EntryHead) → Step
step_of p (ok x) =
    record {
      answer = Some (record { tag = x.value.tag; payload = range x.next x.value.size; tag_offset = p });
      next = byte_pos (x.next + x.value.size);
    }
step_of p (error s o) = record { answer = None; next = byte_pos p }

abbrev pub step_at : (region : List ℕ) (p : ℕ) → Step
step_at region p = step_of p (entry_in region p)

-- what a cursor yields
abbrev pub yielded : Cursor → Option Entry
yielded c = (step_at c.region.now c.next.0).answer

-- the cursor after that: the same slice, the next offset
abbrev pub advanced : Cursor → Cursor
advanced c = record { region = c.region; next = (step_at c.region.now c.next.0).next }

-- ---- a walk: `new`, then `next` again and again

-- the part of a file that its cursor keeps: up to the end of the extension block; of a refused file nothing
abbrev pub region_of : List ℕ → List ℕ
region_of f = take (block_bounds f).end.0 f

-- a cursor before the first entry: it keeps that part of the caller's slice, from the slice's first byte on
pub record New (file : Bor (List ℕ)) (c : Cursor) : Type 0 where
  pub bytes : c.region.now ≡ region_of file.now
  pub place : c.region.ref_ptr ≡ file.ref_ptr
  pub next : c.next ≡ (block_bounds file.now).start

abbrev pub first_step : List ℕ → Step
first_step f = step_at (region_of f) (block_bounds f).start.0

-- the cursor after k calls of `next`
unfoldable pub after : ℕ → Cursor → Cursor
after zero c = c
after (suc k) c = after k (advanced c)

-- a refused file has none
abbrev pub entry_count : List ℕ → ℕ
entry_count f = (read_file f).«record».entry_count

-- "yields one entry at a time, as tag and range", and the tag's offset (request 11/13): call k of `next`, k from 0, gives entry k
pub record Yields (file : Bor (List ℕ)) (start : Cursor) : Type 0 where
  -- "keeps the file with it": the part that `New` names
  pub same-region : (k : ℕ) → (after k start).region ≡ start.region
  -- the offset of entry k; after the last it stays, at the end of the block
  pub offset : (c : Content) → Rules c → file.now ≡ file_of c → (k : ℕ)
      → (after k start).next.0 ≡ block_start c + length (block_bytes (take k c.extensions))
  -- what `entry_at` answers for k
  pub entry : (k : ℕ) → yielded (after k start) ≡ entry_answer file.now k
  -- the k-th entry of the syntax
  pub of-syntax : (c : Content) → Rules c → file.now ≡ file_of c → (k : ℕ) → k < length c.extensions
      → yielded (after k start) ≡ Some (get_or (entries_at (block_start c) c.extensions) k zero_entry)
  -- "after the last it says so each time"
  pub after_last : (k : ℕ) → entry_count file.now ≤ k → yielded (after k start) ≡ None
  -- "A refused file yields none"
  pub refused : (read_file file.now).status ≢ 0 → (k : ℕ) → yielded (after k start) ≡ None

-- of every cursor that `new` makes of a slice of bytes
abbrev pub EntriesInOrder : Type 0
EntriesInOrder = (file : Bor (List ℕ)) → All Byte file.now → (start : Cursor) → New file start → Yields file start
