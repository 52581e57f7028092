-- Document 01's rules on values as tests: reading and writing judge by them. `Rules` has the same rules as named facts.
use Rattle.std.specs.Prelude.{Bool, false, not, ◌&&◌, ◌||◌, List, [], ◌∷◌, ℕ, min, ◌+◌, leb, ltb, eqb, take, get_or}
use Rattle.bpg_codec.specs.Lists.{same}
use Rattle.bpg_format.specs.declared.record.Header.{Header}
use Rattle.bpg_format.specs.Content.{Flags}
use Rattle.bpg_format.specs.Rules.{min_cb_log2_size_y, ctb_log2_size_y, min_tb_log2_size_y, max_tb_log2_size_y, log2_min_ipcm_cb_size_y, log2_max_ipcm_cb_size_y}

-- refusal 6: the colour space is 0 to 4; 0 if the pixel format is 0
abbrev pub color_space_allowed : Flags → Bool
color_space_allowed f = leb f.color_space 4 && (not (eqb f.pixel_format 0) || eqb f.color_space 0)

-- refusal 10: the data length counts the headers and the data, `size` bytes, or is zero
abbrev pub counts_to_end : (data_length size : ℕ) → Bool
counts_to_end n size = eqb n 0 || eqb n size

-- refusal 17: the seven bits; explicit rdpcm, extended precision, high precision offsets, cabac bypass alignment
abbrev pub range_flag : Header → ℕ → Bool
range_flag h k = get_or h.range_flags k false

unfoldable pub no_forbidden_bit : Header → Bool
no_forbidden_bit h = eqb h.sps_extension_7bits 0 && (not (range_flag h 3) && (not (range_flag h 4) && (not (range_flag h 6) && not (range_flag h 8))))

-- refusal 16; `depth` is the file's bit depth
unfoldable pub pcm_allowed : (depth : ℕ) → Header → Bool
pcm_allowed depth h =
    leb (h.pcm_sample_bit_depth_luma_minus1 + 1) depth
    && (leb (h.pcm_sample_bit_depth_chroma_minus1 + 1) depth
    && (leb (min (min_cb_log2_size_y h) 5) (log2_min_ipcm_cb_size_y h) && leb (log2_max_ipcm_cb_size_y h) (min (ctb_log2_size_y h) 5)))

unfoldable pub hevc_allowed : (depth : ℕ) → Header → Bool
hevc_allowed depth h =
    leb 4 (ctb_log2_size_y h)
    && (leb (ctb_log2_size_y h) 6
    && (ltb (min_tb_log2_size_y h) (min_cb_log2_size_y h)
    && (leb (max_tb_log2_size_y h) (min (ctb_log2_size_y h) 5)
    && (leb (h.max_transform_hierarchy_depth_intra + min_tb_log2_size_y h) (ctb_log2_size_y h)
    && (not h.pcm_enabled_flag || pcm_allowed depth h)))))

-- refusal 26 (request 2/13): the data is not empty, and begins neither 00 00 01 nor 00 00 00 01
unfoldable pub data_allowed : List ℕ → Bool
data_allowed l = not (same l []) && (not (same (take 3 l) (0 ∷ 0 ∷ 1 ∷ [])) && not (same (take 4 l) (0 ∷ 0 ∷ 0 ∷ 1 ∷ [])))
