-- For proofs and inner contracts: a reader of the format need not open this file. The format as codecs (document 01, "Order of the file"):
-- the laws of the combinators give that a file is read as a content exactly when it is the file of that content, and that the content keeps
-- the rules. Its decoding is `Read`'s (`proofs/Chain`), its encoding is `Syntax`'s (`proofs/SyntaxLaws`).
use Rattle.std.specs.Prelude.{Bool, false, not, ◌&&◌, ◌||◌, List, [], ◌∷◌, ◌++◌, ℕ, ◌+◌, T, leb, eqb, length, drop, replicate}
use Rattle.bpg_codec.specs.Select.{select}
use Rattle.bpg_codec.specs.Outcome.{ok, ◌>>=◌, decoded}
use Rattle.bpg_codec.specs.Codec.{Codec, Exact, at_item, at_own}
use Rattle.bpg_codec.specs.Lawful.{Byte}
use Rattle.bpg_codec.specs.Bits.{Bit, bit}
use Rattle.bpg_codec.specs.Parts.{sequence, mapped, guarded, sized, item, absent, fixed}
use Rattle.bpg_codec.specs.Regions.{then_rest, item_then_rest, mapped_exact, derived, guarded_region, rest, verbatim, repeated, packed}
use Rattle.bpg_ue7.specs.Ue7.{ue7, not_zero}
use Rattle.bpg_bits.specs.BitNumbers.{unsigned, exp_golomb}
use Rattle.bpg_format.specs.Limits.{max_entries, max_file}
use Rattle.bpg_format.specs.declared.record.Header.{Header}
use Rattle.bpg_format.specs.Zero.{zero_header}
use Rattle.bpg_format.specs.Content.{Flags, Extension, AnimationControl, Content, has_alpha, bit_depth}
use Rattle.bpg_format.specs.Syntax.{magic, byte4, byte5}
use Rattle.bpg_format.specs.Rules.{is_animation, has_animation}
use Rattle.bpg_format.specs.Tests.{color_space_allowed, counts_to_end, no_forbidden_bit, hevc_allowed, data_allowed}
use Rattle.bpg_format.specs.Read.{read_flags, animation_of}

-- ---- items 1 and 2: magic, byte 4, byte 5

pub record FlagsRules (f : Flags) : Type 0 where
  pub pixel-format : T (leb f.pixel_format 5)
  pub bit-depth : T (leb f.bit_depth_minus8 6)
  pub color-space : T (color_space_allowed f)

unfoldable pub flags : Codec ℕ Flags
flags =
    record {
      encode = λ f. magic ++ (byte4 f ∷ byte5 f ∷ []);
      decode = λ i p l. read_flags l >>= λ f. ok (decoded f (p + 6) (drop 6 l));
      Valid = FlagsRules;
    }

-- ---- item 3: width and height are not 0

unfoldable pub dimension : Codec ℕ ℕ
dimension = guarded (ue7 32) not_zero 9 at_own

-- ---- items 4 and 5: the extension block

unfoldable pub period : Codec ℕ ℕ
period = guarded (ue7 16) not_zero 12 at_own

-- loop count, period numerator, period denominator, dummy bytes
unfoldable pub animation_codec : Exact ℕ (ℕ × (ℕ × (ℕ × List ℕ)))
animation_codec = then_rest (ue7 16) λ _. then_rest period λ _. then_rest period λ _. rest Byte

-- a payload is kept as its bytes; a tag 5 payload must be readable
unfoldable pub payload : (animation : Bool) → Exact ℕ (List ℕ)
payload animation = select animation (verbatim animation_codec) (rest Byte)

-- `seen`: an entry with tag 5 stands before it
unfoldable pub extension : Bool → Codec ℕ Extension
extension seen =
    mapped (sequence (ue7 32) λ tag. sized 2 (ue7 32) (guarded_region (λ _. not (seen && eqb tag 5)) 13 at_item (payload (eqb tag 5))))
    (λ x. record { tag = x.0; payload = x.1 }) (λ e. (e.tag, e.payload))

abbrev pub seen_after : Bool → Extension → Bool
seen_after seen e = seen || is_animation e

unfoldable pub extensions : Exact ℕ (List Extension)
extensions = repeated extension seen_after 11 max_entries false

unfoldable pub block : Bool → Codec ℕ (List Extension)
block present = select present (sized 2 (ue7 32) extensions) (absent [])

-- ---- item 6: HEVC headers

abbrev pub one_bit : Codec Bool Bool
one_bit = mapped (unsigned 1) (λ v. eqb v 1) bit

-- fields that a flag leaves out have the value e
abbrev pub optional : {A : Type 0} → Bool → Codec Bool A → A → Codec Bool A
optional present c e = select present c (absent e)

abbrev pub SizeFields : Type 0
SizeFields = ℕ × (ℕ × (ℕ × (ℕ × ℕ)))

unfoldable pub size_fields : Codec Bool SizeFields
size_fields = sequence exp_golomb λ _. sequence exp_golomb λ _. sequence exp_golomb λ _. sequence exp_golomb λ _. exp_golomb

abbrev pub PcmFields : Type 0
PcmFields = ℕ × (ℕ × (ℕ × (ℕ × Bool)))

unfoldable pub pcm_fields : Codec Bool PcmFields
pcm_fields = sequence (unsigned 4) λ _. sequence (unsigned 4) λ _. sequence exp_golomb λ _. sequence exp_golomb λ _. one_bit

unfoldable pub sps_fields : Codec Bool (Bool × ℕ)
sps_fields = sequence one_bit λ _. unsigned 7

abbrev pub no_pcm : PcmFields
no_pcm = (0, (0, (0, (0, false))))

abbrev pub no_sps : Bool × ℕ
no_sps = (false, 0)

abbrev pub FieldTuple : Type 0
FieldTuple = SizeFields × (Bool × (Bool × (PcmFields × (Bool × (Bool × ((Bool × ℕ) × List Bool))))))

-- the fields in the specification's order: block sizes, sample adaptive offset, PCM, strong intra smoothing, SPS extension, range flags
unfoldable pub field_sequence : Codec Bool FieldTuple
field_sequence =
    sequence size_fields λ _.
    sequence one_bit λ _.
    sequence one_bit λ pcm.
    sequence (optional pcm pcm_fields no_pcm) λ _.
    sequence one_bit λ _.
    sequence one_bit λ sps.
    sequence (optional sps sps_fields no_sps) λ x.
    optional x.0 (fixed Bit 9 15 at_item) (replicate 9 false)

abbrev pub header_from : FieldTuple → Header
header_from x =
    let pcm = x.1.1.1.0 in
    let sps = x.1.1.1.1.1.1.0 in
    record {
      log2_min_luma_coding_block_size_minus3 = x.0.0;
      log2_diff_max_min_luma_coding_block_size = x.0.1.0;
      log2_min_transform_block_size_minus2 = x.0.1.1.0;
      log2_diff_max_min_transform_block_size = x.0.1.1.1.0;
      max_transform_hierarchy_depth_intra = x.0.1.1.1.1;
      sample_adaptive_offset_enabled_flag = x.1.0;
      pcm_enabled_flag = x.1.1.0;
      pcm_sample_bit_depth_luma_minus1 = pcm.0;
      pcm_sample_bit_depth_chroma_minus1 = pcm.1.0;
      log2_min_pcm_luma_coding_block_size_minus3 = pcm.1.1.0;
      log2_diff_max_min_pcm_luma_coding_block_size = pcm.1.1.1.0;
      pcm_loop_filter_disabled_flag = pcm.1.1.1.1;
      strong_intra_smoothing_enabled_flag = x.1.1.1.1.0;
      sps_extension_present_flag = x.1.1.1.1.1.0;
      sps_range_extension_flag = sps.0;
      sps_extension_7bits = sps.1;
      range_flags = x.1.1.1.1.1.1.1;
    }

abbrev pub sizes_of : Header → SizeFields
sizes_of h = (
  h.log2_min_luma_coding_block_size_minus3,
  (
    h.log2_diff_max_min_luma_coding_block_size,
    (
      h.log2_min_transform_block_size_minus2,
      (
        h.log2_diff_max_min_transform_block_size,
        h.max_transform_hierarchy_depth_intra,
      ),
    ),
  ),
)

abbrev pub pcm_of : Header → PcmFields
pcm_of h = (
  h.pcm_sample_bit_depth_luma_minus1,
  (
    h.pcm_sample_bit_depth_chroma_minus1,
    (
      h.log2_min_pcm_luma_coding_block_size_minus3,
      (
        h.log2_diff_max_min_pcm_luma_coding_block_size,
        h.pcm_loop_filter_disabled_flag,
      ),
    ),
  ),
)

abbrev pub fields_of : Header → FieldTuple
fields_of h = (
  sizes_of h,
  (
    h.sample_adaptive_offset_enabled_flag,
    (
      h.pcm_enabled_flag,
      (
        pcm_of h,
        (
          h.strong_intra_smoothing_enabled_flag,
          (
            h.sps_extension_present_flag,
            (
              (h.sps_range_extension_flag, h.sps_extension_7bits),
              h.range_flags,
            ),
          ),
        ),
      ),
    ),
  ),
)

unfoldable pub header_fields : Codec Bool Header
header_fields = mapped field_sequence header_from fields_of

-- length, fits (2), fields and trailing bits (15), 17, 16, each at the header's length
unfoldable pub header : (depth : ℕ) → Codec ℕ Header
header depth =
    guarded (guarded (item (sized 2 (ue7 32) (packed 15 header_fields))) no_forbidden_bit 17 at_own) (hevc_allowed depth) 16 at_own

unfoldable pub alpha_header : Flags → Codec ℕ Header
alpha_header f = select (has_alpha f) (header (bit_depth f)) (absent zero_header)

-- item 7; 26 at its first byte
unfoldable pub hevc_bytes : Exact ℕ (List ℕ)
hevc_bytes = guarded_region data_allowed 26 at_own (rest Byte)

-- items 6 and 7
unfoldable pub body : Flags → Exact ℕ (Header × (Header × List ℕ))
body f = then_rest (alpha_header f) λ _. then_rest (header (bit_depth f)) λ _. hevc_bytes

-- 14, then 10, before them
unfoldable pub judged_body : Flags → (data_length : ℕ) → List Extension → Exact ℕ (Header × (Header × List ℕ))
judged_body f n es =
    guarded_region (λ _. not f.animation || has_animation es) 14 (λ _ _. 5)
    (guarded_region (λ l. counts_to_end n (length l)) 10 at_item (body f))

-- ---- the file

abbrev pub Parts : Type 0
Parts = Flags × (ℕ × (ℕ × (ℕ × (List Extension × (Header × (Header × List ℕ))))))

unfoldable pub parts : Exact ℕ Parts
parts =
    guarded_region (λ l. leb (length l) max_file) 1 (λ _ _. 0)
    (then_rest flags λ f.
    then_rest dimension λ _.
    then_rest dimension λ _.
    item_then_rest (ue7 32) λ n.
    then_rest (block f.extension_present) λ es.
    judged_body f n es)

unfoldable pub with_loop : Exact ℕ (Parts × AnimationControl)
with_loop = derived parts (λ x. animation_of x.1.1.1.1.0)

abbrev pub content_from : Parts × AnimationControl → Content
content_from x =
    record {
      flags = x.0.0;
      width = x.0.1.0;
      height = x.0.1.1.0;
      explicit_length = not_zero x.0.1.1.1.0;
      extensions = x.0.1.1.1.1.0;
      control = x.1;
      alpha_header = x.0.1.1.1.1.1.0;
      color_header = x.0.1.1.1.1.1.1.0;
      hevc_data = x.0.1.1.1.1.1.1.1;
    }

abbrev pub length_of : Content → ℕ
length_of c = select c.explicit_length (length ((body c.flags).encode (c.alpha_header, (c.color_header, c.hevc_data)))) 0

abbrev pub parts_of : Content → Parts × AnimationControl
parts_of c =
    ((c.flags, (c.width, (c.height, (length_of c, (c.extensions, (c.alpha_header, (c.color_header, c.hevc_data))))))), c.control)

unfoldable pub file : Exact ℕ Content
file = mapped_exact with_loop content_from parts_of
