-- The file that the syntax gives for a content (document 01, "Order of the file"; BPG 0.9.5, section 3.1), as plain concatenation.
use Rattle.std.specs.Prelude.{Bool, List, [], ◌∷◌, ◌++◌, ℕ, ◌+◌, ◌*◌, length}
use Rattle.bpg_codec.specs.Select.{select}
use Rattle.bpg_codec.specs.Bits.{bit, bits, padded}
use Rattle.bpg_ue7.specs.Ue7.{ue7_bytes}
use Rattle.bpg_bits.specs.BitNumbers.{exp_golomb_bits}
use Rattle.bpg_format.specs.declared.record.Header.{Header}
use Rattle.bpg_format.specs.Content.{Flags, Extension, Content, has_alpha}

-- item 1: magic
abbrev pub magic : List ℕ
magic = 0x42 ∷ 0x50 ∷ 0x47 ∷ 0xFB ∷ []

-- item 2, byte 4: pixel format 3 bits, alpha1 1, bit depth minus 8 4
abbrev pub byte4 : Flags → ℕ
byte4 f = f.pixel_format * 32 + bit f.alpha1 * 16 + f.bit_depth_minus8

-- item 2, byte 5: colour space 4, extension flag, alpha2, limited range, animation
abbrev pub byte5 : Flags → ℕ
byte5 f = f.color_space * 16 + bit f.extension_present * 8 + bit f.alpha2 * 4 + bit f.limited_range * 2 + bit f.animation

-- item 4, an entry: tag, length, payload; and the entries of the block
abbrev pub extension_bytes : Extension → List ℕ
extension_bytes e = ue7_bytes e.tag ++ (ue7_bytes (length e.payload) ++ e.payload)

abbrev pub block_bytes : List Extension → List ℕ
block_bytes [] = []
block_bytes (e ∷ es) = extension_bytes e ++ block_bytes es

-- items 3 and 4: with the extension flag the extension length and the block
unfoldable pub extension_part : Bool → List Extension → List ℕ
extension_part present es = select present (ue7_bytes (length (block_bytes es)) ++ block_bytes es) []

-- item 6: the fields of a HEVC header, in the specification's order
abbrev pub pcm_bits : Header → List Bool
pcm_bits h =
    bits 4 h.pcm_sample_bit_depth_luma_minus1
    ++ (bits 4 h.pcm_sample_bit_depth_chroma_minus1
    ++ (exp_golomb_bits h.log2_min_pcm_luma_coding_block_size_minus3
    ++ (exp_golomb_bits h.log2_diff_max_min_pcm_luma_coding_block_size
    ++ (h.pcm_loop_filter_disabled_flag ∷ []))))

abbrev pub sps_extension_bits : Header → List Bool
sps_extension_bits h = h.sps_range_extension_flag ∷ bits 7 h.sps_extension_7bits

unfoldable pub header_bits : Header → List Bool
header_bits h =
    exp_golomb_bits h.log2_min_luma_coding_block_size_minus3
    ++ (exp_golomb_bits h.log2_diff_max_min_luma_coding_block_size
    ++ (exp_golomb_bits h.log2_min_transform_block_size_minus2
    ++ (exp_golomb_bits h.log2_diff_max_min_transform_block_size
    ++ (exp_golomb_bits h.max_transform_hierarchy_depth_intra
    ++ (h.sample_adaptive_offset_enabled_flag
    ∷ h.pcm_enabled_flag
    ∷ (select h.pcm_enabled_flag (pcm_bits h) []
    ++ (h.strong_intra_smoothing_enabled_flag
    ∷ h.sps_extension_present_flag
    ∷ (select h.sps_extension_present_flag (sps_extension_bits h) []
    ++ select h.sps_range_extension_flag h.range_flags []))))))))

-- the header's length, then its fields and zero bits up to the byte
unfoldable pub header_bytes : Header → List ℕ
header_bytes h = ue7_bytes (length (padded (header_bits h))) ++ padded (header_bits h)

-- items 6 and 7, which the data length counts: the alpha plane's header first, the colour's, and the data
unfoldable pub headers_and_data : Content → List ℕ
headers_and_data c = select (has_alpha c.flags) (header_bytes c.alpha_header) [] ++ (header_bytes c.color_header ++ c.hevc_data)

unfoldable pub data_length : Content → ℕ
data_length c = select c.explicit_length (length (headers_and_data c)) 0

unfoldable pub file_of : Content → List ℕ
file_of c =
    magic
    ++ (byte4 c.flags
    ∷ byte5 c.flags
    ∷ (ue7_bytes c.width
    ++ (ue7_bytes c.height
    ++ (ue7_bytes (data_length c)
    ++ (extension_part c.flags.extension_present c.extensions
    ++ headers_and_data c)))))
