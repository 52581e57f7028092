-- The examples hold, by computation.
use mathlib.Core.Path.{refl}
use lib.Count.{count_leading_zeros}
use Rattle.bpg_codec.specs.Select.{select}
use Rattle.bpg_codec.specs.Bits.{bits, unpack, pack, padded}
use Rattle.bpg_ue7.specs.Ue7.{groups, ue7_bytes, ue7_rest, ue7_decode}
use Rattle.bpg_bits.specs.BitNumbers.{prefix_decode, exp_golomb_bits}
use Rattle.bpg_format.specs.Syntax.{header_bits, header_bytes, headers_and_data, data_length}
use Rattle.bpg_format.specs.Tests.{no_forbidden_bit, pcm_allowed, hevc_allowed, data_allowed}
use Rattle.bpg_format.specs.Read.{read_flags, read_head, read_animation, animation_of, read_entry, read_entries, read_block, read_fields, read_header, read_alpha_header, read_body, read_content}
use Rattle.bpg_partition.specs.Partitions.{head_count, entry_head_count, payload_count, header_count, data_count, partition_answer}
use Rattle.bpg_partition.specs.Examples.{Examples}

pub examples : Examples
unfolding select bits unpack pack padded groups ue7_bytes ue7_rest ue7_decode count_leading_zeros prefix_decode exp_golomb_bits header_bits header_bytes headers_and_data
    data_length no_forbidden_bit pcm_allowed hevc_allowed data_allowed read_flags read_head read_animation animation_of read_entry read_entries read_block
    read_fields read_header read_alpha_header read_body read_content head_count entry_head_count payload_count header_count data_count partition_answer
examples = record { a = refl; c = refl }
