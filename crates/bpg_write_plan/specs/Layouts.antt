-- How many bytes the parts of a record's file take, from the record alone.
use Rattle.std.specs.Prelude.{Bool, true, ◌||◌, List, [], ◌∷◌, ℕ, ◌+◌, length}
use Rattle.bpg_codec.specs.Select.{select}
use Rattle.bpg_codec.specs.Bits.{bytes_for}
use Rattle.bpg_ue7.specs.Ue7.{ue7_bytes}
use Rattle.bpg_format.specs.declared.record.Entry.{Entry}
use Rattle.bpg_format.specs.declared.record.Record.{Record}
use Rattle.bpg_format.specs.Records.{used_entries}
use Rattle.bpg_write_plan.specs.declared.layout.Layout.{Layout}

-- how many bytes a number takes
abbrev pub size_of : ℕ → ℕ
size_of v = length (ue7_bytes v)

abbrev pub entries_size : List Entry → ℕ
entries_size [] = 0
entries_size (e ∷ es) = size_of e.tag + size_of e.payload.length + e.payload.length + entries_size es

abbrev pub extension_size : (present : Bool) (block : ℕ) → ℕ
extension_size present block = select present (size_of block + block) 0

abbrev pub header_size : (present : Bool) (bits : ℕ) → ℕ
header_size present n = select present (size_of (bytes_for n) + bytes_for n) 0

abbrev pub headers_and_data_size : Record → (alpha color : ℕ) → ℕ
headers_and_data_size r alpha color = header_size (r.alpha1_flag || r.alpha2_flag) alpha + header_size true color + r.«data».length

abbrev pub layout_of : Record → (alpha color : ℕ) → Layout
layout_of r alpha color =
    let block = entries_size (used_entries r) in
    let rest = headers_and_data_size r alpha color in
    record {
      block = block;
      headers_and_data = rest;
      total =
          6 + (size_of r.picture_width + size_of r.picture_height + size_of (select r.explicit_length rest 0))
          + extension_size r.extension_present_flag block + rest;
    }
