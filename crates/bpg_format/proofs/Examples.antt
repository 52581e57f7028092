-- Each example of the table holds, and so do the answers that `WrongAnswers` needs: all by computation.
use mathlib.Core.Path.{◌≡◌, refl}
use lib.ListN.{set, replicate}
use lib.Count.{count_leading_zeros}
use Rattle.bpg_codec.specs.Select.{select}
use Rattle.bpg_codec.specs.Lawful.{All}
use Rattle.bpg_codec.specs.Bits.{bits, unpack, pack, padded}
use Rattle.bpg_codec.proofs.Tokens.{all_append}
use Rattle.bpg_ue7.specs.Ue7.{groups, ue7_bytes, ue7_rest, ue7_decode}
use Rattle.bpg_bits.specs.BitNumbers.{prefix_decode, exp_golomb_bits}
use Rattle.bpg_format.specs.Syntax.{extension_part, header_bits, header_bytes, headers_and_data, data_length, file_of}
use Rattle.bpg_format.specs.Tests.{no_forbidden_bit, pcm_allowed, hevc_allowed, data_allowed}
use Rattle.bpg_format.specs.Read.{read_flags, read_head, read_animation, animation_of, read_entry, read_entries, read_block, read_fields, read_header, read_alpha_header, read_body, read_content}
use Rattle.bpg_format.specs.Records.{extension_length_start, block_start, data_start, record_of, content_of, read_file}
use Rattle.bpg_format.specs.Parts.{entry_of}
use Rattle.bpg_format.specs.Write.{ranges_in_source, unused_zero, absent_zero, header_zero, consistent, check_animation, check_entries, fields_coded, check_header}
use Rattle.bpg_format.specs.Write.{check_content, check_record, sized_file, write_outcome, write_file, write_buffer}
use Rattle.bpg_format.specs.Pictures.{picture_of, with_choices, canonical_content, canonical_bytes, canonical_outcome, canonical_file, canonical_buffer}
use Rattle.bpg_format.specs.Requirements.{bytes}
use Rattle.bpg_format.specs.Examples.{file_a, file_b, file_c, file_d, reading_a, Holds, desk_examples, request_examples, examples}

pub record Answers : Type 0 where
  pub a-reads : read_file file_a ≡ reading_a
  pub a-data-length : (read_file (set file_a 9 2)).status ≡ 10
  pub c-status : (read_file file_c).status ≡ 0
  pub c-entries : (read_file file_c).«record».entry_count ≡ 1
  pub d-entries : (read_file file_d).«record».entry_count ≡ 2
  pub d-first : (entry_of file_d 0).tag ≡ 1
  pub d-second : (entry_of file_d 1).tag ≡ 2
  pub a-written : (write_file reading_a.«record» file_a (replicate 16 0)).status ≡ 0
  pub a-bytes : write_buffer reading_a.«record» file_a (replicate 16 0) ≡ file_a
  pub a-canonical : (canonical_file file_a (replicate 16 0)).status ≡ 0
  pub a-count : (canonical_file file_a (replicate 16 0)).count ≡ 16
  pub b-canonical : (canonical_file file_b (replicate 16 0)).status ≡ 0
  pub b-bytes : canonical_buffer file_b (replicate 16 0) ≡ file_a
  pub b-written : bytes (canonical_file file_b (replicate 16 0)) (canonical_buffer file_b (replicate 16 0)) ≡ file_a
  pub c-canonical : (canonical_file file_c (replicate 22 0)).status ≡ 0
  pub c-count : (canonical_file file_c (replicate 22 0)).count ≡ 22

computed : All Holds desk_examples × All Holds request_examples × Answers
unfolding select bits unpack pack padded groups ue7_bytes ue7_rest ue7_decode count_leading_zeros prefix_decode exp_golomb_bits extension_part header_bits
    header_bytes headers_and_data data_length file_of no_forbidden_bit pcm_allowed hevc_allowed data_allowed read_flags read_head read_animation animation_of
    read_entry read_entries read_block read_fields read_header read_alpha_header read_body read_content extension_length_start block_start data_start
    record_of read_file picture_of with_choices canonical_content canonical_bytes canonical_outcome canonical_buffer ranges_in_source unused_zero
    absent_zero header_zero consistent check_animation check_entries fields_coded check_header check_content sized_file check_record write_outcome
    write_file write_buffer content_of entry_of canonical_file
computed = (
  (refl, (refl, (refl, (refl, (refl, (refl, (refl, (refl, (refl, (refl, (refl, (refl, ((refl, refl), ((refl, refl), (refl, (refl, tt)))))))))))))))),
  (refl, (refl, (refl, (refl, (refl, (refl, (refl, (refl, tt)))))))),
  record {
    a-reads = refl;
    a-data-length = refl;
    c-status = refl;
    c-entries = refl;
    d-entries = refl;
    d-first = refl;
    d-second = refl;
    a-written = refl;
    a-bytes = refl;
    a-canonical = refl;
    a-count = refl;
    b-canonical = refl;
    b-bytes = refl;
    b-written = refl;
    c-canonical = refl;
    c-count = refl;
  },
)

pub hold : All Holds examples
hold = all_append Holds desk_examples request_examples computed.0 computed.1

pub answers : Answers
answers = computed.2
