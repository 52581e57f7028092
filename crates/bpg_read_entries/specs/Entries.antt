-- What reading one entry answers (document 01, "Order of the file", item 4).
use Rattle.std.specs.Prelude.{Bool, not, List, ℕ, ◌+◌, leb, length, drop}
use Rattle.bpg_codec.specs.Outcome.{Outcome, ok, ◌>>=◌, guard, Decoded, decoded}
use Rattle.bpg_bytes.specs.declared.position.BytePos.{BytePos}
use Rattle.bpg_bytes.specs.declared.position.Located.{Located}
use Rattle.bpg_bytes.specs.Positions.{byte_pos}
use Rattle.bpg_ue7.specs.Ue7.{ue7_decode}
use Rattle.bpg_format.specs.Limits.{max_file}
use Rattle.bpg_format.specs.declared.record.Entry.{Entry}
use Rattle.bpg_format.specs.Zero.{range}
use Rattle.bpg_format.specs.Content.{AnimationControl}
use Rattle.bpg_format.specs.Read.{read_animation}

-- an entry without its payload
pub record EntryHead : Type 0 where
  pub tag : ℕ
  -- of the payload
  pub size : ℕ

-- what `read_entry` does for any tag: tag, length, payload fits. The payload comes next
unfoldable pub entry_start : (p : ℕ) → List ℕ → Outcome (Decoded ℕ EntryHead)
entry_start p l =
    ue7_decode 32 p l >>= λ tag.
    ue7_decode 32 tag.next tag.rest >>= λ size.
    guard (leb size.value (length size.rest)) 2 tag.next >>= λ _.
    ok (decoded (record { tag = tag.value; size = size.value }) size.next size.rest)

-- and then for tag 5: 13 at the entry's start p, the numbers of its payload l, which stands at `start`; `seen`: an entry with tag 5 stands before it
abbrev pub entry_control : (seen : Bool) (p start : ℕ) → List ℕ → Outcome AnimationControl
entry_control seen p start l = guard (not seen) 13 p >>= λ _. read_animation start l

-- the entry whose tag stands at p, and the offset after its payload
abbrev pub found_entry : (p tag start size : ℕ) → Located Entry BytePos
found_entry p tag start size =
    record { value = record { tag = tag; payload = range start size; tag_offset = p }; next = byte_pos (start + size) }

abbrev pub entry_head_answer : (p : ℕ) → Outcome (Decoded ℕ EntryHead) → Outcome (Located Entry BytePos)
entry_head_answer p m = m >>= λ x. ok (found_entry p x.value.tag x.next x.value.size)

-- the entry at p of a region; one that is longer than a file may be is 1 at 0. Past the region's end it is as at the end: 2 at p
unfoldable pub entry_in : List ℕ → (p : ℕ) → Outcome (Decoded ℕ EntryHead)
entry_in region p = guard (leb (length region) max_file) 1 0 >>= λ _. entry_start p (drop p region)
