-- The five counts of a content, and its record.
use mathlib.Core.Path.{◌≡◌, refl, ap, ◌∙◌}
use mathlib.Core.List.{List, [], ◌∷◌}
use Prim.Native.Nat.{ℕ, ◌+◌}
use native.Mathlib.Omega.{arith}
use lib.ListN.{length}
use Rattle.bpg_ue7.specs.Ue7.{ue7_bytes}
use Rattle.bpg_format.specs.Content.{Extension, Content}
use Rattle.bpg_format.specs.Syntax.{block_bytes, file_of}
use Rattle.bpg_format.specs.Rules.{Rules}
use Rattle.bpg_format.specs.Records.{entries_at, extension_length_start, block_start, data_start, record_of, used_entries}
use Rattle.bpg_format.proofs.RuleLaws.{entry-size}
use Rattle.bpg_format.proofs.RecordLaws.{used-entries}
use Rattle.bpg_format.proofs.RangeLaws.{data-end}
use Rattle.bpg_partition.specs.Partitions.{head_count, entry_head_count, payload_count, header_count, data_count, payload_bytes}

pub head-start : (c : Content) → head_count c ≡ block_start c
unfolding head_count block_start extension_length_start
head-start c = refl

-- the block is its entry heads and its payloads
pub block-count : (es : List Extension) → length (block_bytes es) ≡ entry_head_count es + payload_count es
unfolding entry_head_count payload_count
block-count [] = refl
block-count (e ∷ es) = omega (arith, entry-size e es, block-count es)

-- what stands before the data
pub data-start : (c : Content) → data_start c ≡ head_count c + length (block_bytes c.extensions) + header_count c
unfolding data_start header_count
data-start c = omega (arith, head-start c)

pub adds-up : (c : Content) → Rules c → head_count c + entry_head_count c.extensions + payload_count c.extensions + header_count c + data_count c ≡ length (file_of c)
unfolding data_count
adds-up c r = omega (arith, data-end c r, data-start c, block-count c.extensions)

-- the record's payloads are the content's
pub entries-payloads : (p : ℕ) (es : List Extension) → payload_bytes (entries_at p es) ≡ payload_count es
unfolding payload_bytes payload_count
entries-payloads p [] = refl
entries-payloads p (e ∷ es) = ap (λ (n : ℕ). length e.payload + n) (entries-payloads (p + length (ue7_bytes e.tag) + length (ue7_bytes (length e.payload)) + length e.payload) es)

pub record-payloads : (c : Content) → payload_bytes (used_entries (record_of c)) ≡ payload_count c.extensions
unfolding record_of
record-payloads c = ap payload_bytes (used-entries (block_start c) c.extensions) ∙ entries-payloads (block_start c) c.extensions
