-- The fixed numbers of a file's list, from its survey: they are those of the record that is put together from it, whatever its entries are.
use Rattle.std.specs.Prelude.{Option, List, [], ◌∷◌, ℕ}
use Rattle.bpg_codec.specs.Bits.{bit}
use Rattle.bpg_ue7.specs.Ue7.{not_zero}
use Rattle.bpg_format.specs.Records.{coded_size}
use Rattle.bpg_read_head.specs.declared.head.Head.{Head}
use Rattle.bpg_read_animation.specs.declared.animation.Animation.{Animation}
use Rattle.bpg_read_survey.specs.declared.given.FileSurvey.{FileSurvey}
use Rattle.bpg_reader.specs.Assembled.{loop_of, assembled_record}
use Rattle.bpg_export_list.specs.Numbers.{fixed_numbers}

-- those of a file of `len` bytes
abbrev pub survey_numbers : (len : ℕ) → FileSurvey → List ℕ
survey_numbers len s =
    fixed_numbers (assembled_record len s [])
    (coded_size s.rest.headers.value.color s.head.picture_width) (coded_size s.rest.headers.value.color s.head.picture_height)

-- for an inner contract: the first 14 of them
abbrev pub first_numbers : Head → Option Animation → List ℕ
first_numbers h a =
    h.flags.pixel_format ∷ bit h.flags.alpha1_flag ∷ h.flags.bit_depth_minus_8 ∷ h.flags.color_space
    ∷ bit h.flags.extension_present_flag ∷ bit h.flags.alpha2_flag ∷ bit h.flags.limited_range_flag ∷ bit h.flags.animation_flag
    ∷ h.picture_width ∷ h.picture_height ∷ bit (not_zero h.data_length)
    ∷ (loop_of a).count ∷ (loop_of a).period_num ∷ (loop_of a).period_den ∷ []
