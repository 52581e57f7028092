-- The requirements hold.
use mathlib.Core.Path.{◌≡◌, refl, sym, ap, ◌∙◌, subst}
use mathlib.Core.Logic.{◌≢◌}
use mathlib.Core.List.{List, [], ◌∷◌, ◌++◌, map, append-nil}
use Prim.Native.Nat.{ℕ, ◌+◌}
use native.Mathlib.Omega.{arith}
use lib.ListN.{length}
use Rattle.bpg_codec.specs.Select.{select}
use Rattle.bpg_codec.specs.Outcome.{Outcome, ok, error}
use Rattle.bpg_format.specs.declared.record.Entry.{Entry}
use Rattle.bpg_format.specs.declared.record.Record.{Record}
use Rattle.bpg_format.specs.declared.answer.Reading.{Reading}
use Rattle.bpg_format.specs.Zero.{range}
use Rattle.bpg_format.specs.Content.{Content}
use Rattle.bpg_format.specs.Syntax.{block_bytes, file_of}
use Rattle.bpg_format.specs.Rules.{Rules}
use Rattle.bpg_format.specs.Read.{read_content}
use Rattle.bpg_format.specs.Records.{block_start, data_start, record_of, used_entries, answer_of, read_file}
use Rattle.bpg_format.specs.Parts.{record_in}
use Rattle.bpg_format.proofs.ReadingLaws.{reads, answer}
use Rattle.bpg_format.proofs.RecordLaws.{used-entries}
use Rattle.bpg_partition.specs.declared.answer.Partition.{Partition}
use Rattle.bpg_partition.specs.Partitions.{head_count, entry_head_count, payload_count, header_count, data_count, partition_of, partition_answer, payload_bytes}
use Rattle.bpg_partition.specs.Pieces.{Piece, piece, entry_pieces, the_head, entry_head, payload, the_headers, the_data, head_piece, headers_piece, pieces, count_of, ranges_of_kind}
use Rattle.bpg_partition.specs.Requirements.{before_data, Partitioned, Partitions, NoPartition}
use Rattle.bpg_partition.proofs.CountLaws.{head-start, block-count, data-start, adds-up, record-payloads}
use Rattle.bpg_partition.proofs.PieceLaws.{laid-file, heads-counted, payloads-counted, payloads-lie, others-counted, others-lie, head-length, headers-length}

-- ---- the pieces of a content

module _ (c : Content) where
  -- what follows the entries
  abbrev after : List Piece
  after = piece the_headers (headers_piece c) ∷ piece the_data c.hevc_data ∷ []

  counted-head : count_of the_head (pieces c) ≡ head_count c
  unfolding pieces count_of select
  counted-head = omega (arith, others-counted the_head refl refl c.extensions after, head-length c)

  counted-heads : count_of entry_head (pieces c) ≡ entry_head_count c.extensions
  unfolding pieces count_of select
  counted-heads = omega (arith, heads-counted c.extensions after)

  counted-payloads : count_of payload (pieces c) ≡ payload_count c.extensions
  unfolding pieces count_of select
  counted-payloads = omega (arith, payloads-counted c.extensions after)

  counted-headers : count_of the_headers (pieces c) ≡ header_count c
  unfolding pieces count_of select
  counted-headers = omega (arith, others-counted the_headers refl refl c.extensions after, headers-length c)

  counted-data : count_of the_data (pieces c) ≡ data_count c
  unfolding pieces count_of select data_count
  counted-data = omega (arith, others-counted the_data refl refl c.extensions after)

  -- the head ends where the first entry stands
  head-end : 0 + length (head_piece c) ≡ block_start c
  head-end = omega (arith, head-length c, head-start c)

  lie-payloads : ranges_of_kind payload 0 (pieces c) ≡ map (λ (e : Entry). e.payload) (used_entries (record_of c))
  unfolding pieces ranges_of_kind select record_of
  lie-payloads =
      ap (λ (n : ℕ). ranges_of_kind payload n (entry_pieces c.extensions ++ after)) head-end
      ∙ payloads-lie c.extensions (block_start c) _ after refl ∙ append-nil _
      ∙ ap (map (λ (e : Entry). e.payload)) (sym (used-entries (block_start c) c.extensions))

  lie-data : ranges_of_kind the_data 0 (pieces c) ≡ (record_of c).«data» ∷ []
  unfolding pieces ranges_of_kind select record_of
  lie-data =
      let start : block_start c + length (block_bytes c.extensions) + length (headers_piece c) ≡ data_start c = omega (arith, headers-length c, head-start c, data-start c) in
      ap (λ (n : ℕ). ranges_of_kind the_data n (entry_pieces c.extensions ++ after)) head-end
      ∙ others-lie the_data refl refl c.extensions (block_start c) _ after refl
      ∙ ap (λ (n : ℕ). range n (length c.hevc_data) ∷ []) start

-- ---- the partition of an accepted file

partitioned : (c : Content) → Rules c → Partitioned (file_of c) c
unfolding partition_answer record_of data_count
partitioned c r =
    let is = ap partition_of (reads c r) in
    let record_is : record_in (file_of c) ≡ record_of c = ap (λ (x : Reading). x.«record») (answer c r) in
    let start : (record_of c).«data».start ≡ before_data (partition_of (ok c)) = omega (arith, data-start c, block-count c.extensions) in
    record {
      answer = is;
      adds-up = ap (λ (p : Partition). before_data p + p.«data») is ∙ adds-up c r;
      in_order = laid-file c r;
      head = ap (λ (p : Partition). p.head) is ∙ sym (counted-head c);
      entry-heads = ap (λ (p : Partition). p.entry_heads) is ∙ sym (counted-heads c);
      payloads = ap (λ (p : Partition). p.payloads) is ∙ sym (counted-payloads c);
      headers = ap (λ (p : Partition). p.headers) is ∙ sym (counted-headers c);
      data-bytes = ap (λ (p : Partition). p.«data») is ∙ sym (counted-data c);
      payload-ranges = ap (λ (x : Record). map (λ (e : Entry). e.payload) (used_entries x)) record_is ∙ sym (lie-payloads c);
      data-range = ap (λ (x : Record). x.«data» ∷ []) record_is ∙ sym (lie-data c);
      payload-lengths = ap (λ (p : Partition). p.payloads) is ∙ sym (ap (λ (x : Record). payload_bytes (used_entries x)) record_is ∙ record-payloads c);
      data-length = ap (λ (p : Partition). p.«data») is ∙ sym (ap (λ (x : Record). x.«data».length) record_is);
      data-start = ap (λ (x : Record). x.«data».start) record_is ∙ start ∙ sym (ap before_data is);
    }

pub partitions : Partitions
partitions f a = subst (λ (g : List ℕ). Partitioned g a.0) (sym a.2) (partitioned a.0 a.1)

pub no-partition : NoPartition
unfolding read_file partition_answer
no-partition f n = by (read_content f) n
  where
    by : (o : Outcome Content) → (answer_of o).status ≢ 0 → partition_of o ≡ partition_of (error (answer_of o).status (answer_of o).offset)
    by (ok c) n = absurd (n refl)
    by (error s o) n = refl
