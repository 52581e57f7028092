-- A reading as a list of numbers, for callers that do not have its type: first the fixed numbers, which are a record's fields without its
-- entries, the coded size and the number of entries, then the entries in use. Fields stand in the order in which `Record` declares them,
-- those of a struct or an array within it in theirs, a flag as 1 or 0.
use Rattle.std.specs.Prelude.{List, [], ◌∷◌, ◌++◌, map, ℕ, ◌+◌, ◌*◌}
use Rattle.bpg_codec.specs.Bits.{bit}
use Rattle.bpg_format.specs.declared.record.Range.{Range}
use Rattle.bpg_format.specs.declared.record.Entry.{Entry}
use Rattle.bpg_format.specs.declared.record.Header.{Header}
use Rattle.bpg_format.specs.declared.record.Record.{Record}
use Rattle.bpg_format.specs.declared.answer.Reading.{Reading}
use Rattle.bpg_format.specs.Records.{used_entries}

-- where the parts of a list begin: 11 numbers, three, 25 a header, two, two, one
abbrev pub loop_start : ℕ
loop_start = 11

abbrev pub alpha_start : ℕ
alpha_start = loop_start + 3

abbrev pub color_start : ℕ
color_start = alpha_start + 25

abbrev pub data_start : ℕ
data_start = color_start + 25

abbrev pub coded_start : ℕ
coded_start = data_start + 2

abbrev pub count_place : ℕ
count_place = coded_start + 2

abbrev pub fixed_length : ℕ
fixed_length = count_place + 1

-- and then four an entry: so many numbers with n entries
abbrev pub list_length : (n : ℕ) → ℕ
list_length n = fixed_length + 4 * n

-- 0 to 10: bytes 4 and 5, the size, the data length written out
abbrev pub head_numbers : Record → List ℕ
head_numbers r =
    r.pixel_format ∷ bit r.alpha1_flag ∷ r.bit_depth_minus_8 ∷ r.color_space
    ∷ bit r.extension_present_flag ∷ bit r.alpha2_flag ∷ bit r.limited_range_flag ∷ bit r.animation_flag
    ∷ r.picture_width ∷ r.picture_height ∷ bit r.explicit_length ∷ []

-- from loop_start
abbrev pub animation_numbers : Record → List ℕ
animation_numbers r = r.loop_count ∷ r.frame_period_num ∷ r.frame_period_den ∷ []

-- block sizes, PCM, SPS extension, range flags
unfoldable pub header_numbers : Header → List ℕ
header_numbers h =
    (h.log2_min_luma_coding_block_size_minus3 ∷ h.log2_diff_max_min_luma_coding_block_size
    ∷ h.log2_min_transform_block_size_minus2 ∷ h.log2_diff_max_min_transform_block_size
    ∷ h.max_transform_hierarchy_depth_intra ∷ bit h.sample_adaptive_offset_enabled_flag
    ∷ bit h.pcm_enabled_flag ∷ h.pcm_sample_bit_depth_luma_minus1 ∷ h.pcm_sample_bit_depth_chroma_minus1
    ∷ h.log2_min_pcm_luma_coding_block_size_minus3 ∷ h.log2_diff_max_min_pcm_luma_coding_block_size
    ∷ bit h.pcm_loop_filter_disabled_flag ∷ bit h.strong_intra_smoothing_enabled_flag
    ∷ bit h.sps_extension_present_flag ∷ bit h.sps_range_extension_flag ∷ h.sps_extension_7bits ∷ [])
    ++ map bit h.range_flags

-- from alpha_start, 25 a header: alpha, then colour
unfoldable pub headers_numbers : List Header → List ℕ
headers_numbers [] = []
headers_numbers (h ∷ hs) = header_numbers h ++ headers_numbers hs

-- from data_start
abbrev pub range_numbers : Range → List ℕ
range_numbers r = r.start ∷ r.length ∷ []

-- from coded_start, the coded size and the number of entries
unfoldable pub fixed_numbers : Record → (coded_width coded_height : ℕ) → List ℕ
fixed_numbers r w h =
    head_numbers r ++ (animation_numbers r ++ (headers_numbers r.headers ++ (range_numbers r.«data» ++ (w ∷ h ∷ r.entry_count ∷ []))))

-- from fixed_length, four an entry
abbrev pub entry_numbers : Entry → List ℕ
entry_numbers e = e.tag ∷ e.payload.start ∷ e.payload.length ∷ e.tag_offset ∷ []

unfoldable pub entries_numbers : List Entry → List ℕ
entries_numbers [] = []
entries_numbers (e ∷ es) = entry_numbers e ++ entries_numbers es

abbrev pub numbers_of : Record → (coded_width coded_height : ℕ) → List ℕ
numbers_of r w h = fixed_numbers r w h ++ entries_numbers (used_entries r)

abbrev pub reading_numbers : Reading → List ℕ
reading_numbers r = numbers_of r.«record» r.coded_width r.coded_height
