-- The zero values of the record, and the answers of a refusal (document 01, "Refusal numbers": an all-zero record and count 0).
use Rattle.std.specs.Prelude.{false, ℕ, replicate}
use Rattle.bpg_format.specs.Limits.{max_entries}
use Rattle.bpg_format.specs.declared.record.Range.{Range}
use Rattle.bpg_format.specs.declared.record.Entry.{Entry}
use Rattle.bpg_format.specs.declared.record.Header.{Header}
use Rattle.bpg_format.specs.declared.record.Record.{Record}
use Rattle.bpg_format.specs.declared.answer.Reading.{Reading}
use Rattle.bpg_format.specs.declared.answer.Written.{Written}

abbrev pub range : (start length : ℕ) → Range
range s n = record { start = s; length = n }

abbrev pub zero_entry : Entry
zero_entry = record { tag = 0; payload = range 0 0; tag_offset = 0 }

abbrev pub zero_header : Header
zero_header =
    record {
      log2_min_luma_coding_block_size_minus3 = 0;
      log2_diff_max_min_luma_coding_block_size = 0;
      log2_min_transform_block_size_minus2 = 0;
      log2_diff_max_min_transform_block_size = 0;
      max_transform_hierarchy_depth_intra = 0;
      sample_adaptive_offset_enabled_flag = false;
      pcm_enabled_flag = false;
      pcm_sample_bit_depth_luma_minus1 = 0;
      pcm_sample_bit_depth_chroma_minus1 = 0;
      log2_min_pcm_luma_coding_block_size_minus3 = 0;
      log2_diff_max_min_pcm_luma_coding_block_size = 0;
      pcm_loop_filter_disabled_flag = false;
      strong_intra_smoothing_enabled_flag = false;
      sps_extension_present_flag = false;
      sps_range_extension_flag = false;
      sps_extension_7bits = 0;
      range_flags = replicate 9 false;
    }

abbrev pub zero_record : Record
zero_record =
    record {
      pixel_format = 0;
      alpha1_flag = false;
      bit_depth_minus_8 = 0;
      color_space = 0;
      extension_present_flag = false;
      alpha2_flag = false;
      limited_range_flag = false;
      animation_flag = false;
      picture_width = 0;
      picture_height = 0;
      explicit_length = false;
      entry_count = 0;
      entries = replicate max_entries zero_entry;
      loop_count = 0;
      frame_period_num = 0;
      frame_period_den = 0;
      headers = replicate 2 zero_header;
      «data» = range 0 0;
    }

abbrev pub refused_reading : (status offset : ℕ) → Reading
refused_reading s o = record { status = s; offset = o; coded_width = 0; coded_height = 0; «record» = zero_record }

abbrev pub refused_written : (status offset : ℕ) → Written
refused_written s o = record { status = s; offset = o; count = 0 }
