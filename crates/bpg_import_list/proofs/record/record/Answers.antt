use Rattle.std.proofs.Common.{ℕ, [], ◌∷◌, ap, ◌∙◌}
use Rattle.bpg_format.specs.Records.{pad_entries}
use Rattle.bpg_export_list.specs.Numbers.{fixed_length}
use Rattle.bpg_import_list.specs.Fields.{list_entries, list_record}
use Rattle.bpg_import_list.proofs.record.record.Goals as goal

pub returns : goal.returns
unfolding list_record
returns c =
    λ z.
    record {
      pixel_format = c.u8_at.ensures z;
      alpha1_flag = c.flag.ensures z;
      bit_depth_minus_8 = c.u8_at-2.ensures z;
      color_space = c.u8_at-3.ensures z;
      extension_present_flag = c.flag-2.ensures z;
      alpha2_flag = c.flag-3.ensures z;
      limited_range_flag = c.flag-4.ensures z;
      animation_flag = c.flag-5.ensures z;
      picture_width = c.u32_at.ensures z;
      picture_height = c.u32_at-2.ensures z;
      explicit_length = c.flag-6.ensures z;
      entry_count = c.u32_at-entry_count.ensures z;
      entries = (c.entries-entries.ensures ∙ ap (λ (k : ℕ). pad_entries (list_entries c.args.numbers.now fixed_length k)) c.u32_at-entry_count.ensures) z;
      loop_count = c.u16_at.ensures z;
      frame_period_num = c.u16_at-2.ensures z;
      frame_period_den = c.u16_at-3.ensures z;
      headers = c.header-alpha.ensures z ∷ c.header-color.ensures z ∷ [];
      «data» = c.range-data.ensures z;
    }
