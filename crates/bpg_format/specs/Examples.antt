-- Document 01's worked examples that are to be proved ("The desk's examples"), and those of requests 2/13 (refusal 26) and 3/13 (sizes): one
-- table. `proofs/Examples` proves the one claim that each holds, by computation.
use Rattle.std.specs.Prelude.{◌≡◌, Bool, true, false, List, [], ◌∷◌, ◌++◌, ℕ, length, replicate}
use Rattle.bpg_codec.specs.Outcome.{Outcome, ok, error, located}
use Rattle.bpg_ue7.specs.Ue7.{ue7_decode}
use Rattle.bpg_bits.specs.BitNumbers.{exp_golomb_decode}
use Rattle.bpg_format.specs.declared.record.Entry.{Entry}
use Rattle.bpg_format.specs.declared.record.Header.{Header}
use Rattle.bpg_format.specs.declared.record.Record.{Record}
use Rattle.bpg_format.specs.declared.answer.Reading.{Reading}
use Rattle.bpg_format.specs.Zero.{range, zero_header, refused_reading}
use Rattle.bpg_format.specs.Records.{pad_entries, read_file}
use Rattle.bpg_format.specs.Pictures.{canonical_file, canonical_buffer}

-- ---- the files A, B and C

abbrev pub file_start : List ℕ
file_start = 0x42 ∷ 0x50 ∷ 0x47 ∷ 0xFB ∷ 0x20 ∷ []

-- A's header, with other data
abbrev pub hevc_with : (hevc_data : List ℕ) → List ℕ
hevc_with l = 0x03 ∷ 0x92 ∷ 0x4D ∷ 0x00 ∷ l

abbrev pub hevc : List ℕ
hevc = hevc_with (0x26 ∷ 0x01 ∷ [])

-- A's head and header, with other data
abbrev pub file_with : (hevc_data : List ℕ) → List ℕ
file_with l = file_start ++ (0x00 ∷ 0x08 ∷ 0x84 ∷ 0x1E ∷ 0x00 ∷ hevc_with l)

abbrev pub file_a : List ℕ
file_a = file_with (0x26 ∷ 0x01 ∷ [])

abbrev pub file_b : List ℕ
file_b = file_start ++ (0x00 ∷ 0x08 ∷ 0x84 ∷ 0x1E ∷ 0x06 ∷ hevc)

-- A with `04 92 4D 80 00` for `03 92 4D 00`
abbrev pub file_a_extended : List ℕ
file_a_extended = file_start ++ (0x00 ∷ 0x08 ∷ 0x84 ∷ 0x1E ∷ 0x00 ∷ 0x04 ∷ 0x92 ∷ 0x4D ∷ 0x80 ∷ 0x00 ∷ 0x26 ∷ 0x01 ∷ [])

abbrev pub file_c : List ℕ
file_c = file_start ++ (0x09 ∷ 0x08 ∷ 0x84 ∷ 0x1E ∷ 0x00 ∷ 0x05 ∷ 0x05 ∷ 0x03 ∷ 0x00 ∷ 0x01 ∷ 0x0A ∷ hevc)

-- C without its animation entry's last byte
abbrev pub file_c_short : List ℕ
file_c_short = file_start ++ (0x09 ∷ 0x08 ∷ 0x84 ∷ 0x1E ∷ 0x00 ∷ 0x04 ∷ 0x05 ∷ 0x02 ∷ 0x00 ∷ 0x01 ∷ hevc)

-- A with two entries, tags 1 and 2, without bytes: not document 01's
abbrev pub file_d : List ℕ
file_d = file_start ++ (0x08 ∷ 0x08 ∷ 0x84 ∷ 0x1E ∷ 0x00 ∷ 0x04 ∷ 0x01 ∷ 0x00 ∷ 0x02 ∷ 0x00 ∷ hevc)

-- 8 by 8, with MinCb and Ctb 6 and PCM: MinPcm 5, "the smaller of MinCb and 5" (request 3/13)
abbrev pub file_pcm5 : List ℕ
file_pcm5 = file_start ++ (0x00 ∷ 0x08 ∷ 0x08 ∷ 0x00 ∷ 0x04 ∷ 0x26 ∷ 0x4A ∷ 0xEE ∷ 0xE0 ∷ 0x26 ∷ 0x01 ∷ [])

-- 8 by 8, with MinCb 3, Ctb 6 and MaxTb 6: above "the smaller of Ctb and 5" (request 3/13)
abbrev pub file_max_tb6 : List ℕ
file_max_tb6 = file_start ++ (0x00 ∷ 0x08 ∷ 0x08 ∷ 0x00 ∷ 0x03 ∷ 0x92 ∷ 0x58 ∷ 0x00 ∷ 0x26 ∷ 0x01 ∷ [])

-- ---- their readings

abbrev pub header_a : Header
header_a =
    record {
      log2_min_luma_coding_block_size_minus3 = 0;
      log2_diff_max_min_luma_coding_block_size = 3;
      log2_min_transform_block_size_minus2 = 0;
      log2_diff_max_min_transform_block_size = 3;
      max_transform_hierarchy_depth_intra = 0;
      sample_adaptive_offset_enabled_flag = true;
      pcm_enabled_flag = false;
      pcm_sample_bit_depth_luma_minus1 = 0;
      pcm_sample_bit_depth_chroma_minus1 = 0;
      log2_min_pcm_luma_coding_block_size_minus3 = 0;
      log2_diff_max_min_pcm_luma_coding_block_size = 0;
      pcm_loop_filter_disabled_flag = false;
      strong_intra_smoothing_enabled_flag = true;
      sps_extension_present_flag = false;
      sps_range_extension_flag = false;
      sps_extension_7bits = 0;
      range_flags = replicate 9 false;
    }

-- 8 by 542, 4:2:0, coded 8 by 544
abbrev pub reading_of : Record → Reading
reading_of r = record { status = 0; offset = 0; coded_width = 8; coded_height = 544; «record» = r }

-- A and C differ in the two flags, the entries, the loop numbers and where the data lies
abbrev pub record_with : (flag : Bool) → List Entry → (num den start : ℕ) → Record
record_with flag es num den start =
    record {
      pixel_format = 1;
      alpha1_flag = false;
      bit_depth_minus_8 = 0;
      color_space = 0;
      extension_present_flag = flag;
      alpha2_flag = false;
      limited_range_flag = false;
      animation_flag = flag;
      picture_width = 8;
      picture_height = 542;
      explicit_length = false;
      entry_count = length es;
      entries = pad_entries es;
      loop_count = 0;
      frame_period_num = num;
      frame_period_den = den;
      headers = zero_header ∷ header_a ∷ [];
      «data» = range start 2;
    }

-- data at 14, 2 bytes
abbrev pub reading_a : Reading
reading_a = reading_of (record_with false [] 0 0 14)

-- loop forever, period 1/10, payload at 13, 3 bytes
abbrev pub reading_c : Reading
reading_c = reading_of (record_with true (record { tag = 5; payload = range 13 3; tag_offset = 11 } ∷ []) 1 10 20)

-- ---- the table

pub data Example : Type 0 where
  -- ue7(n) at offset 0
  number : ℕ → List ℕ → Outcome (ℕ × ℕ) → Example
  -- ue(v) at offset 0
  code : List Bool → Outcome (ℕ × ℕ) → Example
  reads : List ℕ → Reading → Example
  accepts : List ℕ → Example
  -- the canonical form, into a buffer of just its size: the answer and the buffer
  canonicalizes : List ℕ → List ℕ → Example

abbrev pub Holds : Example → Type 0
Holds (number n l o) = located (ue7_decode n 0 l) ≡ o
Holds (code l o) = located (exp_golomb_decode 0 0 l) ≡ o
Holds (reads f r) = read_file f ≡ r
Holds (accepts f) = (read_file f).status ≡ 0
Holds (canonicalizes f g) =
    let out : List ℕ = replicate (length g) 0 in
    (canonical_file f out ≡ record { status = 0; offset = 0; count = length g }) × (canonical_buffer f out ≡ g)

-- document 01's
abbrev pub desk_examples : List Example
desk_examples =
    number 32 (0x08 ∷ []) (ok (8, 1))
    ∷ number 32 (0x84 ∷ 0x1E ∷ []) (ok (542, 2))
    ∷ number 32 (0xAC ∷ 0xBE ∷ 0x17 ∷ []) (ok (728855, 3))
    ∷ number 32 (0x80 ∷ 0x08 ∷ []) (error 7 0)
    ∷ number 32 (0x8F ∷ 0xFF ∷ 0xFF ∷ 0xFF ∷ 0x7F ∷ []) (ok (4294967295, 5))
    ∷ number 32 (0x90 ∷ 0x80 ∷ 0x80 ∷ 0x80 ∷ 0x00 ∷ []) (error 8 4)
    ∷ number 16 (0x83 ∷ 0xFF ∷ 0x7F ∷ []) (ok (65535, 3))
    ∷ number 16 (0x84 ∷ 0x80 ∷ 0x00 ∷ []) (error 8 2)
    ∷ code (true ∷ []) (ok (0, 1))
    ∷ code (false ∷ true ∷ true ∷ []) (ok (2, 3))
    ∷ code (false ∷ false ∷ true ∷ false ∷ false ∷ []) (ok (3, 5))
    ∷ reads file_a reading_a
    ∷ canonicalizes file_b file_a
    ∷ canonicalizes file_a_extended file_a
    ∷ reads file_c reading_c
    ∷ reads file_c_short (refused_reading 2 15)
    ∷ []

-- those of requests 2/13 and 3/13
abbrev pub request_examples : List Example
request_examples =
    reads (file_with []) (refused_reading 26 14)
    ∷ reads (file_with (0x00 ∷ 0x00 ∷ 0x01 ∷ 0x26 ∷ [])) (refused_reading 26 14)
    ∷ reads (file_with (0x00 ∷ 0x00 ∷ 0x00 ∷ 0x01 ∷ [])) (refused_reading 26 14)
    ∷ reads (file_with (0x00 ∷ 0x00 ∷ [])) reading_a
    ∷ accepts (file_with (0x00 ∷ 0x00 ∷ 0x00 ∷ []))
    ∷ accepts (file_with (0x00 ∷ 0x00 ∷ 0x00 ∷ 0x00 ∷ 0x01 ∷ []))
    ∷ accepts file_pcm5
    ∷ reads file_max_tb6 (refused_reading 16 9)
    ∷ []

abbrev pub examples : List Example
examples = desk_examples ++ request_examples
