-- Request 11/13: each entry "has the place of its tag besides its payload range. The writer pays no heed to that place, in unused entries too, and
-- content and picture leave it out." As types over the definitions that the calls' contracts cite; `proofs/TagOffsets` proves them.
use Rattle.std.specs.Prelude.{◌≡◌, List, ◌++◌, map, ℕ, ◌+◌, ◌<◌, length, drop}
use Rattle.bpg_format.specs.declared.record.Entry.{Entry}
use Rattle.bpg_format.specs.declared.record.Record.{Record}
use Rattle.bpg_format.specs.Content.{Content}
use Rattle.bpg_format.specs.Syntax.{block_bytes, headers_and_data, file_of}
use Rattle.bpg_format.specs.Rules.{Rules, Accepted}
use Rattle.bpg_format.specs.Records.{block_start, with_entries, content_of, read_file}
use Rattle.bpg_format.specs.Parts.{entry_of, range_end}
use Rattle.bpg_format.specs.Write.{write_file, write_buffer, write_size}

-- "the place of its tag": the one that the syntax gives, in every accepted file
pub record TagOffsets : Type 0 where
  -- the first entry's tag begins where the block does, that of each later one where the payload before it ends
  pub first : (f : List ℕ) (a : Accepted f) → 0 < (read_file f).«record».entry_count → (entry_of f 0).tag_offset ≡ block_start a.0
  pub next : (f : List ℕ) → Accepted f → (k : ℕ) → k + 1 < (read_file f).«record».entry_count → (entry_of f (k + 1)).tag_offset ≡ range_end (entry_of f k).payload
  -- from there on the file has that entry, tag first, those after it, and what follows the block
  pub bytes : (c : Content) → Rules c → (k : ℕ) → k < length c.extensions
      → drop (entry_of (file_of c) k).tag_offset (file_of c) ≡ block_bytes (drop k c.extensions) ++ headers_and_data c

-- ---- records that differ in tag offsets alone, those of unused entries among them

abbrev pub without_tag_offset : Entry → Entry
without_tag_offset e = record { tag = e.tag; payload = e.payload; tag_offset = 0 }

abbrev pub without_tag_offsets : Record → Record
without_tag_offsets r = with_entries r (map without_tag_offset r.entries)

pub record NoHeed (r s : Record) : Type 0 where
  -- "content and picture leave it out": one content over each source, and a picture is a content's
  pub content : (source : List ℕ) → content_of r source ≡ content_of s source
  -- "The writer pays no heed": the same answer, the same bytes in the buffer, the same size
  pub answer : (source out : List ℕ) → write_file r source out ≡ write_file s source out
  pub buffer : (source out : List ℕ) → write_buffer r source out ≡ write_buffer s source out
  pub size : (source : List ℕ) → write_size r source ≡ write_size s source

abbrev pub WrittenAlike : Type 0
WrittenAlike = (r s : Record) → without_tag_offsets r ≡ without_tag_offsets s → NoHeed r s
