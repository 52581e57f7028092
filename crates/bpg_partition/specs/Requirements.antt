-- Request 13/13, in its own words and as types over the definitions that the call's contract cites. `proofs/Requirements` proves them.
use Rattle.std.specs.Prelude.{◌≡◌, List, [], ◌∷◌, map, ◌≢◌, ℕ, ◌+◌, length}
use Rattle.bpg_codec.specs.Outcome.{ok, error}
use Rattle.bpg_format.specs.declared.record.Entry.{Entry}
use Rattle.bpg_format.specs.Content.{Content}
use Rattle.bpg_format.specs.Rules.{Accepted}
use Rattle.bpg_format.specs.Records.{used_entries, read_file}
use Rattle.bpg_format.specs.Parts.{record_in}
use Rattle.bpg_partition.specs.declared.answer.Partition.{Partition}
use Rattle.bpg_partition.specs.Partitions.{partition_of, partition_answer, payload_bytes}
use Rattle.bpg_partition.specs.Pieces.{the_head, entry_head, payload, the_headers, the_data, pieces, laid, count_of, ranges_of_kind}

-- "the head's bytes, entry heads, payloads, HEVC headers with their lengths, and data, each counted by its own definition, add up to the file length"
abbrev pub before_data : Partition → ℕ
before_data p = p.head + p.entry_heads + p.payloads + p.headers

module _ (f : List ℕ) where
  -- c is the content of f
  pub record Partitioned (c : Content) : Type 0 where
    -- the call answers the counts of c
    pub answer : partition_answer f ≡ partition_of (ok c)
    pub adds-up : before_data (partition_answer f) + (partition_answer f).«data» ≡ length f
    -- the head, each entry head before its payload, the headers, the data: laid end to end in this order they are the file
    pub in_order : laid (pieces c) ≡ f
    -- and each count is that of the pieces of its kind
    pub head : (partition_answer f).head ≡ count_of the_head (pieces c)
    pub entry-heads : (partition_answer f).entry_heads ≡ count_of entry_head (pieces c)
    pub payloads : (partition_answer f).payloads ≡ count_of payload (pieces c)
    pub headers : (partition_answer f).headers ≡ count_of the_headers (pieces c)
    pub data-bytes : (partition_answer f).«data» ≡ count_of the_data (pieces c)
    -- the record's ranges are where payloads and data lie among the pieces
    pub payload-ranges : map (λ (e : Entry). e.payload) (used_entries (record_in f)) ≡ ranges_of_kind payload 0 (pieces c)
    pub data-range : (record_in f).«data» ∷ [] ≡ ranges_of_kind the_data 0 (pieces c)
    -- and the counts are the lengths of these ranges; the data starts after all the rest
    pub payload-lengths : (partition_answer f).payloads ≡ payload_bytes (used_entries (record_in f))
    pub data-length : (partition_answer f).«data» ≡ (record_in f).«data».length
    pub data-start : (record_in f).«data».start ≡ before_data (partition_answer f)

abbrev pub Partitions : Type 0
Partitions = (f : List ℕ) (a : Accepted f) → Partitioned f a.0

-- a refused file: reading's status and offset, and zeros
abbrev pub NoPartition : Type 0
NoPartition = (f : List ℕ) → (read_file f).status ≢ 0 → partition_answer f ≡ partition_of (error (read_file f).status (read_file f).offset)
