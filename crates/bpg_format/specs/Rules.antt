-- The rules that a content keeps (document 01, "Order of the file" and its HEVC rules), one named fact a rule; and accepted files.
use Rattle.std.specs.Prelude.{◌≡◌, Bool, true, false, ◌||◌, List, [], ◌∷◌, ◌++◌, ◌≢◌, ℕ, min, ◌+◌, ◌-◌, ◌^◌, ◌≤◌, ◌<◌, eqb, length, take, get_or, replicate}
use Rattle.bpg_codec.specs.Lawful.{All, Byte}
use Rattle.bpg_ue7.specs.Ue7.{ue7_bytes}
use Rattle.bpg_format.specs.Limits.{max_entries, max_file}
use Rattle.bpg_format.specs.declared.record.Header.{Header}
use Rattle.bpg_format.specs.Content.{Extension, AnimationControl, Content, has_alpha, bit_depth}
use Rattle.bpg_format.specs.Syntax.{file_of}
use Rattle.bpg_format.specs.Zero.{zero_header}

-- ---- HEVC rules, each header

-- document 01's MinCb, Ctb, MinTb, MaxTb and MinPcm, and the largest PCM size
module _ (h : Header) where
  abbrev pub min_cb_log2_size_y : ℕ
  min_cb_log2_size_y = h.log2_min_luma_coding_block_size_minus3 + 3

  abbrev pub ctb_log2_size_y : ℕ
  ctb_log2_size_y = min_cb_log2_size_y + h.log2_diff_max_min_luma_coding_block_size

  abbrev pub min_tb_log2_size_y : ℕ
  min_tb_log2_size_y = h.log2_min_transform_block_size_minus2 + 2

  abbrev pub max_tb_log2_size_y : ℕ
  max_tb_log2_size_y = min_tb_log2_size_y + h.log2_diff_max_min_transform_block_size

  abbrev pub log2_min_ipcm_cb_size_y : ℕ
  log2_min_ipcm_cb_size_y = h.log2_min_pcm_luma_coding_block_size_minus3 + 3

  abbrev pub log2_max_ipcm_cb_size_y : ℕ
  log2_max_ipcm_cb_size_y = log2_min_ipcm_cb_size_y + h.log2_diff_max_min_pcm_luma_coding_block_size

-- refusal 16, with the limits of request 3/13 (H.265, 7.4.3.2); `depth` is the file's bit depth. MinPcm is not above the largest PCM size, and
-- so within the same limit
pub record PcmRules (depth : ℕ) (h : Header) : Type 0 where
  pub luma-depth : h.pcm_sample_bit_depth_luma_minus1 + 1 ≤ depth
  pub chroma-depth : h.pcm_sample_bit_depth_chroma_minus1 + 1 ≤ depth
  pub min-pcm : min (min_cb_log2_size_y h) 5 ≤ log2_min_ipcm_cb_size_y h
  pub max-pcm : log2_max_ipcm_cb_size_y h ≤ min (ctb_log2_size_y h) 5

pub record HevcRules (depth : ℕ) (h : Header) : Type 0 where
  pub ctb-least : 4 ≤ ctb_log2_size_y h
  pub ctb-most : ctb_log2_size_y h ≤ 6
  pub min-tb : min_tb_log2_size_y h < min_cb_log2_size_y h
  pub max-tb : max_tb_log2_size_y h ≤ min (ctb_log2_size_y h) 5
  pub hierarchy-depth : h.max_transform_hierarchy_depth_intra + min_tb_log2_size_y h ≤ ctb_log2_size_y h
  pub pcm : h.pcm_enabled_flag ≡ true → PcmRules depth h

-- refusal 17: the seven bits; explicit rdpcm, extended precision, high precision offsets, cabac bypass alignment
pub record ForbiddenBits (h : Header) : Type 0 where
  pub seven-bits : h.sps_extension_7bits ≡ 0
  pub explicit-rdpcm : get_or h.range_flags 3 false ≡ false
  pub extended-precision : get_or h.range_flags 4 false ≡ false
  pub high-precision-offsets : get_or h.range_flags 6 false ≡ false
  pub cabac-bypass-alignment : get_or h.range_flags 8 false ≡ false

-- refusal 15: a ue(v) field has a code
abbrev pub Coded : ℕ → Type 0
Coded v = v < 2 ^ 32 - 1

-- absent fields are zero (refusal 19): the PCM fields, and those of the SPS extension
pub record NoPcm (h : Header) : Type 0 where
  pub luma-depth : h.pcm_sample_bit_depth_luma_minus1 ≡ 0
  pub chroma-depth : h.pcm_sample_bit_depth_chroma_minus1 ≡ 0
  pub min-size : h.log2_min_pcm_luma_coding_block_size_minus3 ≡ 0
  pub max-size : h.log2_diff_max_min_pcm_luma_coding_block_size ≡ 0
  pub loop-filter : h.pcm_loop_filter_disabled_flag ≡ false

pub record NoSpsExtension (h : Header) : Type 0 where
  pub range-flag : h.sps_range_extension_flag ≡ false
  pub seven-bits : h.sps_extension_7bits ≡ 0

pub record FieldRules (h : Header) : Type 0 where
  pub min-cb : Coded h.log2_min_luma_coding_block_size_minus3
  pub diff-cb : Coded h.log2_diff_max_min_luma_coding_block_size
  pub min-tb : Coded h.log2_min_transform_block_size_minus2
  pub diff-tb : Coded h.log2_diff_max_min_transform_block_size
  pub depth : Coded h.max_transform_hierarchy_depth_intra
  pub min-pcm : h.pcm_enabled_flag ≡ true → Coded h.log2_min_pcm_luma_coding_block_size_minus3
  pub diff-pcm : h.pcm_enabled_flag ≡ true → Coded h.log2_diff_max_min_pcm_luma_coding_block_size
  pub no-pcm : h.pcm_enabled_flag ≡ false → NoPcm h
  pub no-extension : h.sps_extension_present_flag ≡ false → NoSpsExtension h
  pub nine : length h.range_flags ≡ 9
  pub no-range : h.sps_range_extension_flag ≡ false → h.range_flags ≡ replicate 9 false

pub record HeaderRules (depth : ℕ) (h : Header) : Type 0 where
  pub fields : FieldRules h
  pub forbidden : ForbiddenBits h
  pub hevc : HevcRules depth h

-- ---- the extension block

-- item 5: loop count, period numerator, period denominator, each ue7(16), both period numbers not 0 (refusal 12), then dummy bytes
pub record AnimationPayload (l : List ℕ) (p : AnimationControl) (dummy : List ℕ) : Type 0 where
  pub is : l ≡ ue7_bytes p.count ++ (ue7_bytes p.period_num ++ (ue7_bytes p.period_den ++ dummy))
  pub count : p.count < 2 ^ 16
  pub num : p.period_num < 2 ^ 16
  pub num-not-zero : p.period_num ≢ 0
  pub den : p.period_den < 2 ^ 16
  pub den-not-zero : p.period_den ≢ 0
  pub bytes : All Byte dummy

abbrev pub is_animation : Extension → Bool
is_animation e = eqb e.tag 5

-- a tag 5 payload holds the file's loop numbers
pub record ExtensionRules (p : AnimationControl) (e : Extension) : Type 0 where
  pub tag : e.tag < 2 ^ 32
  pub bytes : All Byte e.payload
  pub control : is_animation e ≡ true → (dummy : List ℕ) × AnimationPayload e.payload p dummy

abbrev pub has_animation : List Extension → Bool
has_animation [] = false
has_animation (e ∷ es) = is_animation e || has_animation es

-- at most one with tag 5 (refusal 13)
abbrev pub OneAnimation : List Extension → Type 0
OneAnimation [] = Unit {0}
OneAnimation (e ∷ es) = (is_animation e ≡ true → has_animation es ≡ false) × OneAnimation es

abbrev pub no_animation : AnimationControl
no_animation = record { count = 0; period_num = 0; period_den = 0 }

-- ---- the HEVC data

-- request 2/13 (refusal 26): it is not empty, and begins neither 00 00 01 nor 00 00 00 01
pub record DataRules (l : List ℕ) : Type 0 where
  pub not-empty : l ≢ []
  pub no-start-code : take 3 l ≢ 0 ∷ 0 ∷ 1 ∷ []
  pub no-long-start-code : take 4 l ≢ 0 ∷ 0 ∷ 0 ∷ 1 ∷ []

-- ---- the file

pub record Rules (c : Content) : Type 0 where
  -- refusals 4, 5 and 6
  pub pixel-format : c.flags.pixel_format ≤ 5
  pub bit-depth : c.flags.bit_depth_minus8 ≤ 6
  pub color-space : c.flags.color_space ≤ 4
  pub gray : c.flags.pixel_format ≡ 0 → c.flags.color_space ≡ 0
  -- 8 and 9
  pub width : c.width < 2 ^ 32
  pub width-not-zero : c.width ≢ 0
  pub height : c.height < 2 ^ 32
  pub height-not-zero : c.height ≢ 0
  -- the extension block: 11, 12, 13, 14
  pub absent-block : c.flags.extension_present ≡ false → c.extensions ≡ []
  pub entry-limit : length c.extensions ≤ max_entries
  pub entries : All (ExtensionRules c.control) c.extensions
  pub one-animation : OneAnimation c.extensions
  pub no-animation : has_animation c.extensions ≡ false → c.control ≡ no_animation
  pub animated : c.flags.animation ≡ true → has_animation c.extensions ≡ true
  -- the headers: 15, 16, 17
  pub no-alpha : has_alpha c.flags ≡ false → c.alpha_header ≡ zero_header
  pub alpha-header : has_alpha c.flags ≡ true → HeaderRules (bit_depth c.flags) c.alpha_header
  pub color-header : HeaderRules (bit_depth c.flags) c.color_header
  -- the data (26), and the size of the file (1)
  pub data-bytes : All Byte c.hevc_data
  pub data-start : DataRules c.hevc_data
  pub size : length (file_of c) ≤ max_file

-- a file is accepted when it is the syntax's file of a content that keeps the rules
abbrev pub Accepted : List ℕ → Type 0
Accepted f = (c : Content) × Rules c × (f ≡ file_of c)
