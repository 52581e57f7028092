-- The flags of byte 4 and byte 5 (document 01, "Order of the file", items 1 and 2).
use Rattle.std.specs.Prelude.{false}
use Rattle.bpg_format.specs.Content.{Flags}
use Rattle.bpg_read_head.specs.declared.flags.Flags.{Flags as CodedFlags}

abbrev pub zero_flags : CodedFlags
zero_flags =
    record {
      pixel_format = 0;
      alpha1_flag = false;
      bit_depth_minus_8 = 0;
      color_space = 0;
      extension_present_flag = false;
      alpha2_flag = false;
      limited_range_flag = false;
      animation_flag = false;
    }

-- a content's flags as the code holds them
abbrev pub coded_flags : Flags → CodedFlags
coded_flags f =
    record {
      pixel_format = f.pixel_format;
      alpha1_flag = f.alpha1;
      bit_depth_minus_8 = f.bit_depth_minus8;
      color_space = f.color_space;
      extension_present_flag = f.extension_present;
      alpha2_flag = f.alpha2;
      limited_range_flag = f.limited_range;
      animation_flag = f.animation;
    }

-- and back
abbrev pub flag_fields : CodedFlags → Flags
flag_fields r =
    record {
      pixel_format = r.pixel_format;
      alpha1 = r.alpha1_flag;
      bit_depth_minus8 = r.bit_depth_minus_8;
      color_space = r.color_space;
      extension_present = r.extension_present_flag;
      alpha2 = r.alpha2_flag;
      limited_range = r.limited_range_flag;
      animation = r.animation_flag;
    }
