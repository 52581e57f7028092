-- The record of a file, put together from what its survey found, and its entries; its coded size.
use Rattle.std.specs.Prelude.{Option, Some, None, List, [], ◌∷◌, ℕ, ◌+◌, ◌-◌, ◌*◌, ◌/◌, ◌^◌, ltb}
use Rattle.bpg_codec.specs.Select.{select}
use Rattle.bpg_ue7.specs.Ue7.{not_zero}
use Rattle.bpg_format.specs.declared.record.Entry.{Entry}
use Rattle.bpg_format.specs.declared.record.Record.{Record}
use Rattle.bpg_format.specs.declared.answer.Reading.{Reading}
use Rattle.bpg_format.specs.Content.{AnimationControl}
use Rattle.bpg_format.specs.Rules.{no_animation}
use Rattle.bpg_format.specs.Zero.{range}
use Rattle.bpg_format.specs.Records.{coded_size}
use Rattle.bpg_read_animation.specs.declared.animation.Animation.{Animation}
use Rattle.bpg_read_animation.specs.Animations.{animation_control}
use Rattle.bpg_read_survey.specs.declared.given.FileSurvey.{FileSurvey}

-- a size rounded up to a multiple of 2^n; 0 where n is above 6, as it is for no accepted header
abbrev pub rounded_size : (size n : ℕ) → ℕ
rounded_size size n = select (ltb 6 n) 0 ((size + 2 ^ n - 1) / 2 ^ n * 2 ^ n)

-- the loop numbers, zero without an animation control
abbrev pub loop_of : Option Animation → AnimationControl
loop_of None = no_animation
loop_of (Some a) = animation_control a

abbrev pub assembled_record : (len : ℕ) → FileSurvey → List Entry → Record
assembled_record len s es =
    record {
      pixel_format = s.head.flags.pixel_format;
      alpha1_flag = s.head.flags.alpha1_flag;
      bit_depth_minus_8 = s.head.flags.bit_depth_minus_8;
      color_space = s.head.flags.color_space;
      extension_present_flag = s.head.flags.extension_present_flag;
      alpha2_flag = s.head.flags.alpha2_flag;
      limited_range_flag = s.head.flags.limited_range_flag;
      animation_flag = s.head.flags.animation_flag;
      picture_width = s.head.picture_width;
      picture_height = s.head.picture_height;
      explicit_length = not_zero s.head.data_length;
      entry_count = s.rest.block.entry_count;
      entries = es;
      loop_count = (loop_of s.rest.block.animation).count;
      frame_period_num = (loop_of s.rest.block.animation).period_num;
      frame_period_den = (loop_of s.rest.block.animation).period_den;
      headers = s.rest.headers.value.alpha ∷ s.rest.headers.value.color ∷ [];
      «data» = range s.rest.headers.next.0 (len - s.rest.headers.next.0);
    }

abbrev pub assembled_reading : (len : ℕ) → FileSurvey → List Entry → Reading
assembled_reading len s es =
    record {
      status = 0;
      offset = 0;
      coded_width = coded_size s.rest.headers.value.color s.head.picture_width;
      coded_height = coded_size s.rest.headers.value.color s.head.picture_height;
      «record» = assembled_record len s es;
    }
