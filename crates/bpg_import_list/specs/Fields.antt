-- From a list of numbers to the record that it gives: each number modulo what its field can hold; one that is missing counts as 0.
use Rattle.std.specs.Prelude.{Bool, List, [], ◌∷◌, ℕ, zero, suc, ◌+◌, ◌%◌, ◌^◌, eqb, get_or}
use Rattle.bpg_format.specs.declared.record.Range.{Range}
use Rattle.bpg_format.specs.declared.record.Entry.{Entry}
use Rattle.bpg_format.specs.declared.record.Header.{Header}
use Rattle.bpg_format.specs.declared.record.Record.{Record}
use Rattle.bpg_format.specs.Zero.{range}
use Rattle.bpg_format.specs.Records.{pad_entries}
use Rattle.bpg_export_list.specs.Numbers.{loop_start, alpha_start, color_start, data_start, count_place, fixed_length}

abbrev pub flag_at : List ℕ → ℕ → Bool
flag_at l k = eqb (get_or l k 0 % 2) 1

abbrev pub u8_at : List ℕ → ℕ → ℕ
u8_at l k = get_or l k 0 % 2 ^ 8

abbrev pub u16_at : List ℕ → ℕ → ℕ
u16_at l k = get_or l k 0 % 2 ^ 16

abbrev pub u32_at : List ℕ → ℕ → ℕ
u32_at l k = get_or l k 0 % 2 ^ 32

abbrev pub range_at : List ℕ → ℕ → Range
range_at l k = range (u32_at l k) (u32_at l (k + 1))

unfoldable pub range_flags_at : List ℕ → ℕ → List Bool
range_flags_at l k =
    flag_at l k ∷ flag_at l (k + 1) ∷ flag_at l (k + 2) ∷ flag_at l (k + 3) ∷ flag_at l (k + 4)
    ∷ flag_at l (k + 5) ∷ flag_at l (k + 6) ∷ flag_at l (k + 7) ∷ flag_at l (k + 8) ∷ []

unfoldable pub header_at : List ℕ → ℕ → Header
header_at l k =
    record {
      log2_min_luma_coding_block_size_minus3 = u32_at l k;
      log2_diff_max_min_luma_coding_block_size = u32_at l (k + 1);
      log2_min_transform_block_size_minus2 = u32_at l (k + 2);
      log2_diff_max_min_transform_block_size = u32_at l (k + 3);
      max_transform_hierarchy_depth_intra = u32_at l (k + 4);
      sample_adaptive_offset_enabled_flag = flag_at l (k + 5);
      pcm_enabled_flag = flag_at l (k + 6);
      pcm_sample_bit_depth_luma_minus1 = u8_at l (k + 7);
      pcm_sample_bit_depth_chroma_minus1 = u8_at l (k + 8);
      log2_min_pcm_luma_coding_block_size_minus3 = u32_at l (k + 9);
      log2_diff_max_min_pcm_luma_coding_block_size = u32_at l (k + 10);
      pcm_loop_filter_disabled_flag = flag_at l (k + 11);
      strong_intra_smoothing_enabled_flag = flag_at l (k + 12);
      sps_extension_present_flag = flag_at l (k + 13);
      sps_range_extension_flag = flag_at l (k + 14);
      sps_extension_7bits = u8_at l (k + 15);
      range_flags = range_flags_at l (k + 16);
    }

abbrev pub entry_at : List ℕ → ℕ → Entry
entry_at l k = record { tag = u32_at l k; payload = range_at l (k + 1); tag_offset = u32_at l (k + 3) }

-- n entries, the first at k
unfoldable pub list_entries : List ℕ → ℕ → (n : ℕ) → List Entry
list_entries l k zero = []
list_entries l k (suc n) = entry_at l k ∷ list_entries l (k + 4) n

-- the number of entries in use
abbrev pub count_of : List ℕ → ℕ
count_of l = u32_at l count_place

-- the coded size is no part of a record, nor is what stands after the entries in use; unused entries are zero
unfoldable pub list_record : List ℕ → Record
list_record l =
    record {
      pixel_format = u8_at l 0;
      alpha1_flag = flag_at l 1;
      bit_depth_minus_8 = u8_at l 2;
      color_space = u8_at l 3;
      extension_present_flag = flag_at l 4;
      alpha2_flag = flag_at l 5;
      limited_range_flag = flag_at l 6;
      animation_flag = flag_at l 7;
      picture_width = u32_at l 8;
      picture_height = u32_at l 9;
      explicit_length = flag_at l 10;
      entry_count = count_of l;
      entries = pad_entries (list_entries l fixed_length (count_of l));
      loop_count = u16_at l loop_start;
      frame_period_num = u16_at l (loop_start + 1);
      frame_period_den = u16_at l (loop_start + 2);
      headers = header_at l alpha_start ∷ header_at l color_start ∷ [];
      «data» = range_at l data_start;
    }
