-- The parts of a record's file (document 01, "Order of the file").
use Rattle.std.specs.Prelude.{◌≡◌, Bool, true, ◌||◌, List, [], ◌∷◌, ◌++◌, map, ℕ, ◌+◌, ◌≤◌, length}
use Rattle.bpg_codec.specs.Select.{select}
use Rattle.bpg_codec.specs.Bits.{bytes_for}
use Rattle.bpg_ue7.specs.Ue7.{ue7_bytes}
use Rattle.bpg_write_bits.specs.declared.BitBuffer.{BitBuffer}
use Rattle.bpg_write_bits.specs.BitBuffer.{gathered, buffer_bytes}
use Rattle.bpg_format.specs.declared.record.Range.{Range}
use Rattle.bpg_format.specs.declared.record.Entry.{Entry}
use Rattle.bpg_format.specs.declared.record.Header.{Header}
use Rattle.bpg_format.specs.declared.record.Record.{Record}
use Rattle.bpg_format.specs.Rules.{HevcRules}
use Rattle.bpg_format.specs.Syntax.{magic, byte4, byte5, block_bytes, header_bits}
use Rattle.bpg_format.specs.Records.{bytes_in, extension_of, used_entries, record_flags}

-- items 1 to 3 but for the extension length
abbrev pub head_part : Record → (data_length : ℕ) → List ℕ
head_part r n =
    magic ++ (byte4 (record_flags r) ∷ byte5 (record_flags r) ∷ (ue7_bytes r.picture_width ++ (ue7_bytes r.picture_height ++ ue7_bytes n)))

-- a payload that lies in a source of so many bytes
abbrev pub RangeInside : (size : ℕ) → Entry → Type 0
RangeInside n e = e.payload.start + e.payload.length ≤ n

-- item 4: the entries of the block; with the extension flag their length stands before them
abbrev pub entries_part : Record → (source : List ℕ) → List ℕ
entries_part r source = block_bytes (map (extension_of source) (used_entries r))

abbrev pub block_part : Record → (source : List ℕ) → List ℕ
block_part r source = select r.extension_present_flag (ue7_bytes (length (entries_part r source)) ++ entries_part r source) []

-- the buffer has the bits of a header that is present; if it keeps the rules, they fit
pub record Encoded (present : Bool) (h : Header) (b : BitBuffer) : Type 0 where
  pub is : present ≡ true → b ≡ gathered (header_bits h)
  pub short : present ≡ true → (depth : ℕ) → HevcRules depth h → length (header_bits h) ≤ 64

-- item 6: a header's length, and its bits up to the byte
abbrev pub header_part : (present : Bool) → BitBuffer → List ℕ
header_part present b = select present (ue7_bytes (bytes_for b.len.0) ++ buffer_bytes b) []

-- items 6 and 7
abbrev pub headers_and_data_part : (alpha : Bool) → (a c : BitBuffer) → (source : List ℕ) → Range → List ℕ
headers_and_data_part alpha a c source d = header_part alpha a ++ (header_part true c ++ bytes_in source d)

-- the whole file; `size` is that of the headers and the data
abbrev pub file_part : Record → (source : List ℕ) → (size : ℕ) → (a c : BitBuffer) → List ℕ
file_part r source size a c =
    head_part r (select r.explicit_length size 0)
    ++ (block_part r source ++ headers_and_data_part (r.alpha1_flag || r.alpha2_flag) a c source r.«data»)
