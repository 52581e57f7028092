-- The partition of a file (request 13/13): "the head's bytes, entry heads, payloads, HEVC headers with their lengths, and data, each counted by
-- its own definition". The items are those of document 01, "Order of the file".
use Rattle.std.specs.Prelude.{List, [], ◌∷◌, ℕ, ◌+◌, length}
use Rattle.bpg_codec.specs.Select.{select}
use Rattle.bpg_codec.specs.Outcome.{Outcome, ok, error}
use Rattle.bpg_ue7.specs.Ue7.{ue7_bytes}
use Rattle.bpg_format.specs.declared.record.Entry.{Entry}
use Rattle.bpg_format.specs.Content.{Extension, Content, has_alpha}
use Rattle.bpg_format.specs.Syntax.{magic, block_bytes, header_bytes, data_length}
use Rattle.bpg_format.specs.Read.{read_content}
use Rattle.bpg_partition.specs.declared.answer.Partition.{Partition}

-- ---- the five counts

-- items 1 to 3: magic, bytes 4 and 5, width, height, data length, and with the extension flag the extension length
unfoldable pub head_count : Content → ℕ
head_count c =
    length magic + 2 + length (ue7_bytes c.width) + length (ue7_bytes c.height) + length (ue7_bytes (data_length c))
    + select c.flags.extension_present (length (ue7_bytes (length (block_bytes c.extensions)))) 0

-- item 4: each entry's tag and length
unfoldable pub entry_head_count : List Extension → ℕ
entry_head_count [] = 0
entry_head_count (e ∷ es) = length (ue7_bytes e.tag) + length (ue7_bytes (length e.payload)) + entry_head_count es

-- item 4: each entry's payload
unfoldable pub payload_count : List Extension → ℕ
payload_count [] = 0
payload_count (e ∷ es) = length e.payload + payload_count es

-- item 6: the alpha plane's header where there is one, and the colour's, with their lengths
unfoldable pub header_count : Content → ℕ
header_count c = select (has_alpha c.flags) (length (header_bytes c.alpha_header)) 0 + length (header_bytes c.color_header)

-- item 7
unfoldable pub data_count : Content → ℕ
data_count c = length c.hevc_data

-- ---- what the call answers

abbrev pub refused_partition : (status offset : ℕ) → Partition
refused_partition s o = record { status = s; offset = o; head = 0; entry_heads = 0; payloads = 0; headers = 0; «data» = 0 }

abbrev pub counts : (head entry_heads payloads headers hevc_data : ℕ) → Partition
counts head heads payloads headers l =
    record { status = 0; offset = 0; head = head; entry_heads = heads; payloads = payloads; headers = headers; «data» = l }

abbrev pub partition_of : Outcome Content → Partition
partition_of (ok c) =
    record {
      status = 0;
      offset = 0;
      head = head_count c;
      entry_heads = entry_head_count c.extensions;
      payloads = payload_count c.extensions;
      headers = header_count c;
      «data» = data_count c;
    }
partition_of (error s o) = record { status = s; offset = o; head = 0; entry_heads = 0; payloads = 0; headers = 0; «data» = 0 }

unfoldable pub partition_answer : List ℕ → Partition
partition_answer f = partition_of (read_content f)

-- the payloads of a record's entries
unfoldable pub payload_bytes : List Entry → ℕ
payload_bytes [] = 0
payload_bytes (e ∷ es) = e.payload.length + payload_bytes es
