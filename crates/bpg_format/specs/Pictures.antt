-- The picture of a content, and the canonical form (document 01, "Record and picture": picture, tidy form).
use Rattle.std.specs.Prelude.{Bool, false, not, List, [], ◌∷◌, ◌++◌, map, ◌≡◌, ℕ, T, leb, length}
use Rattle.bpg_codec.specs.Select.{select}
use Rattle.bpg_codec.specs.Lists.{member}
use Rattle.bpg_codec.specs.Outcome.{Outcome, ok, ◌>>=◌, guard}
use Rattle.bpg_codec.specs.Bits.{all_zero}
use Rattle.bpg_ue7.specs.Ue7.{ue7_bytes}
use Rattle.bpg_format.specs.Limits.{max_file}
use Rattle.bpg_format.specs.declared.record.Header.{Header}
use Rattle.bpg_format.specs.declared.answer.Written.{Written}
use Rattle.bpg_format.specs.Content.{is_empty, Extension, AnimationControl, Content}
use Rattle.bpg_format.specs.Syntax.{file_of}
use Rattle.bpg_format.specs.Rules.{is_animation, Rules}
use Rattle.bpg_format.specs.Read.{read_content, reading_statuses}
use Rattle.bpg_format.specs.Write.{written_answer, written_buffer}

-- ---- the picture: the content without the four encoding choices

-- a header without (c): SPS extension present flag and range flag
pub record PictureHeader : Type 0 where
  pub log2_min_cb : ℕ
  pub log2_diff_cb : ℕ
  pub log2_min_tb : ℕ
  pub log2_diff_tb : ℕ
  pub hierarchy_depth : ℕ
  pub sample_adaptive_offset : Bool
  pub pcm : Bool
  pub pcm_luma_depth : ℕ
  pub pcm_chroma_depth : ℕ
  pub log2_min_pcm : ℕ
  pub log2_diff_pcm : ℕ
  pub pcm_loop_filter_disabled : Bool
  pub strong_intra_smoothing : Bool
  pub seven_bits : ℕ
  pub range_flags : List Bool

-- without (a) explicit length and (b) the extension flag. An entry with tag 5 has no payload here: its numbers are `loop`, and its
-- dummy bytes are (d)
pub record Picture : Type 0 where
  pub pixel_format : ℕ
  pub alpha1 : Bool
  pub bit_depth_minus8 : ℕ
  pub color_space : ℕ
  pub alpha2 : Bool
  pub limited_range : Bool
  pub animation : Bool
  pub width : ℕ
  pub height : ℕ
  pub entries : List Extension
  pub control : AnimationControl
  pub alpha_header : PictureHeader
  pub color_header : PictureHeader
  pub hevc_data : List ℕ

abbrev pub picture_header : Header → PictureHeader
picture_header h =
    record {
      log2_min_cb = h.log2_min_luma_coding_block_size_minus3;
      log2_diff_cb = h.log2_diff_max_min_luma_coding_block_size;
      log2_min_tb = h.log2_min_transform_block_size_minus2;
      log2_diff_tb = h.log2_diff_max_min_transform_block_size;
      hierarchy_depth = h.max_transform_hierarchy_depth_intra;
      sample_adaptive_offset = h.sample_adaptive_offset_enabled_flag;
      pcm = h.pcm_enabled_flag;
      pcm_luma_depth = h.pcm_sample_bit_depth_luma_minus1;
      pcm_chroma_depth = h.pcm_sample_bit_depth_chroma_minus1;
      log2_min_pcm = h.log2_min_pcm_luma_coding_block_size_minus3;
      log2_diff_pcm = h.log2_diff_max_min_pcm_luma_coding_block_size;
      pcm_loop_filter_disabled = h.pcm_loop_filter_disabled_flag;
      strong_intra_smoothing = h.strong_intra_smoothing_enabled_flag;
      seven_bits = h.sps_extension_7bits;
      range_flags = h.range_flags;
    }

abbrev pub picture_entry : Extension → Extension
picture_entry e = record { tag = e.tag; payload = select (is_animation e) [] e.payload }

unfoldable pub picture_of : Content → Picture
picture_of c =
    record {
      pixel_format = c.flags.pixel_format;
      alpha1 = c.flags.alpha1;
      bit_depth_minus8 = c.flags.bit_depth_minus8;
      color_space = c.flags.color_space;
      alpha2 = c.flags.alpha2;
      limited_range = c.flags.limited_range;
      animation = c.flags.animation;
      width = c.width;
      height = c.height;
      entries = map picture_entry c.extensions;
      control = c.control;
      alpha_header = picture_header c.alpha_header;
      color_header = picture_header c.color_header;
      hevc_data = c.hevc_data;
    }

-- ---- the content of a picture with given encoding choices

pub record Choices : Type 0 where
  -- (a) the data length as a number
  pub explicit_length : Bool
  -- (b) the extension flag
  pub extension_present : Bool
  -- (c) in each header, the SPS extension present flag and the range flag
  pub alpha_sps : Bool
  pub alpha_range : Bool
  pub color_sps : Bool
  pub color_range : Bool
  -- (d) the bytes after the three numbers of tag 5
  pub dummy : List ℕ

abbrev pub header_with : (sps range : Bool) → PictureHeader → Header
header_with sps range h =
    record {
      log2_min_luma_coding_block_size_minus3 = h.log2_min_cb;
      log2_diff_max_min_luma_coding_block_size = h.log2_diff_cb;
      log2_min_transform_block_size_minus2 = h.log2_min_tb;
      log2_diff_max_min_transform_block_size = h.log2_diff_tb;
      max_transform_hierarchy_depth_intra = h.hierarchy_depth;
      sample_adaptive_offset_enabled_flag = h.sample_adaptive_offset;
      pcm_enabled_flag = h.pcm;
      pcm_sample_bit_depth_luma_minus1 = h.pcm_luma_depth;
      pcm_sample_bit_depth_chroma_minus1 = h.pcm_chroma_depth;
      log2_min_pcm_luma_coding_block_size_minus3 = h.log2_min_pcm;
      log2_diff_max_min_pcm_luma_coding_block_size = h.log2_diff_pcm;
      pcm_loop_filter_disabled_flag = h.pcm_loop_filter_disabled;
      strong_intra_smoothing_enabled_flag = h.strong_intra_smoothing;
      sps_extension_present_flag = sps;
      sps_range_extension_flag = range;
      sps_extension_7bits = h.seven_bits;
      range_flags = h.range_flags;
    }

abbrev pub animation_bytes : AnimationControl → (dummy : List ℕ) → List ℕ
animation_bytes p dummy = ue7_bytes p.count ++ (ue7_bytes p.period_num ++ (ue7_bytes p.period_den ++ dummy))

abbrev pub entry_with : AnimationControl → (dummy : List ℕ) → Extension → Extension
entry_with p dummy e = record { tag = e.tag; payload = select (is_animation e) (animation_bytes p dummy) e.payload }

unfoldable pub with_choices : Picture → Choices → Content
with_choices p ch =
    record {
      flags =
          record {
            pixel_format = p.pixel_format;
            alpha1 = p.alpha1;
            bit_depth_minus8 = p.bit_depth_minus8;
            color_space = p.color_space;
            extension_present = ch.extension_present;
            alpha2 = p.alpha2;
            limited_range = p.limited_range;
            animation = p.animation;
          };
      width = p.width;
      height = p.height;
      explicit_length = ch.explicit_length;
      extensions = map (entry_with p.control ch.dummy) p.entries;
      control = p.control;
      alpha_header = header_with ch.alpha_sps ch.alpha_range p.alpha_header;
      color_header = header_with ch.color_sps ch.color_range p.color_header;
      hevc_data = p.hevc_data;
    }

-- ---- the canonical form (document 01: tidy form)

-- (c) the SPS extension absent where all nine flags are zero, else present with the range flag
abbrev pub needs_range : PictureHeader → Bool
needs_range h = not (all_zero h.range_flags)

-- (a) open; (b) no extension flag where there is no entry; (d) no dummy bytes
abbrev pub canonical_choices : Picture → Choices
canonical_choices p =
    record {
      explicit_length = false;
      extension_present = not (is_empty p.entries);
      alpha_sps = needs_range p.alpha_header;
      alpha_range = needs_range p.alpha_header;
      color_sps = needs_range p.color_header;
      color_range = needs_range p.color_header;
      dummy = [];
    }

unfoldable pub canonical_content : Content → Content
canonical_content c = with_choices (picture_of c) (canonical_choices (picture_of c))

-- the canonical form of a content: the file of its picture with these choices
unfoldable pub canonical_bytes : Content → List ℕ
canonical_bytes c = file_of (canonical_content c)

-- ---- pictures of accepted files

-- p is the picture of the file: that of the content whose file it is
pub record Shows (f : List ℕ) (p : Picture) : Type 0 where
  pub content : Content
  pub rules : Rules content
  pub is : f ≡ file_of content
  pub picture : picture_of content ≡ p

-- two files show the same picture when their pictures are equal
abbrev pub SamePicture : (f g : List ℕ) → Type 0
SamePicture f g = (p : Picture) × Shows f p × Shows g p

-- ---- what canonicalizing answers: the reader's refusals, then 20

unfoldable pub canonical_outcome : (capacity : ℕ) → List ℕ → Outcome (List ℕ)
canonical_outcome capacity f =
    read_content f >>= λ c.
    guard (leb (length (canonical_bytes c)) capacity) 20 0 >>= λ _.
    ok (canonical_bytes c)

unfoldable pub canonical_file : (f out : List ℕ) → Written
canonical_file f out = written_answer (canonical_outcome (length out) f)

unfoldable pub canonical_buffer : (f out : List ℕ) → List ℕ
canonical_buffer f out = written_buffer (canonical_outcome (length out) f) out

-- the answer before there is a buffer: the canonical form is never longer than the file, and so has at most `max_file` bytes
unfoldable pub canonical_size : (f : List ℕ) → Written
canonical_size f = written_answer (canonical_outcome max_file f)

-- the refusal numbers of canonicalizing: the reader's, and 20
abbrev pub canonicalizing_statuses : List ℕ
canonicalizing_statuses = 20 ∷ reading_statuses

abbrev pub CanonicalizingStatus : ℕ → Type 0
CanonicalizingStatus s = T (member s canonicalizing_statuses)
