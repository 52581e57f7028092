-- What the codec writes is the file as plain concatenation.
use mathlib.Core.Path.{◌≡◌, refl, ap₂}
use mathlib.Core.Bool.{Bool, true, false}
use mathlib.Core.List.{List, [], ◌∷◌, ◌++◌, append_assoc}
use Prim.Native.Nat.{ℕ}
use lib.Dec.{eqb}
use lib.ListN.{replicate}
use Rattle.bpg_codec.specs.Select.{select}
use Rattle.bpg_codec.specs.Codec.{Codec, at_item}
use Rattle.bpg_codec.specs.Bits.{Bit, bits}
use Rattle.bpg_codec.specs.Parts.{sequence, mapped, guarded, sized, item, absent, fixed}
use Rattle.bpg_codec.specs.Regions.{then_rest, item_then_rest, mapped_exact, derived, guarded_region, rest, verbatim, encode_each, repeated, packed}
use Rattle.bpg_bits.specs.BitNumbers.{exp_golomb_bits}
use Rattle.bpg_format.specs.declared.record.Header.{Header}
use Rattle.bpg_format.specs.Zero.{zero_header}
use Rattle.bpg_format.specs.Content.{Extension, Content, has_alpha, bit_depth}
use Rattle.bpg_format.specs.Syntax.{extension_bytes, block_bytes, extension_part, pcm_bits, sps_extension_bits, header_bits, header_bytes, headers_and_data, data_length}
use Rattle.bpg_format.specs.Syntax.{file_of}
use Rattle.bpg_format.specs.FileCodec.{flags, dimension, payload, extension, seen_after, extensions, block, one_bit, optional, SizeFields, size_fields}
use Rattle.bpg_format.specs.FileCodec.{pcm_fields, sps_fields, no_pcm, no_sps, field_sequence, sizes_of, pcm_of, header_fields, header, alpha_header, hevc_bytes, body}
use Rattle.bpg_format.specs.FileCodec.{judged_body, parts, length_of, with_loop, file}

-- ---- the extension block

pub payload-encode : (b : Bool) (l : List ℕ) → (payload b).encode l ≡ l
unfolding payload select verbatim rest
payload-encode true l = refl
payload-encode false l = refl

pub extension-encode : (seen : Bool) (e : Extension) → (extension seen).encode e ≡ extension_bytes e
unfolding extension mapped sequence sized guarded_region
extension-encode seen e = rw (payload-encode (eqb e.tag 5) e.payload)

pub each-encode : (seen : Bool) (es : List Extension) → encode_each extension seen_after 11 seen es ≡ block_bytes es
each-encode seen [] = refl
each-encode seen (e ∷ es) = ap₂ ◌++◌ (extension-encode seen e) (each-encode (seen_after seen e) es)

pub block-encode : (present : Bool) (es : List Extension) → (block present).encode es ≡ extension_part present es
unfolding block extension_part select sized absent extensions repeated
block-encode true es = rw (each-encode false es)
block-encode false es = refl

-- ---- HEVC headers

one_bit-encode : (b : Bool) → one_bit.encode b ≡ b ∷ []
unfolding mapped bits
one_bit-encode true = refl
one_bit-encode false = refl

optional-encode : {A : Type 0} (b : Bool) (c : Codec Bool A) (e a : A) → (optional b c e).encode a ≡ select b (c.encode a) []
unfolding select absent
optional-encode true c e a = refl
optional-encode false c e a = refl

sizes-encode : (x : SizeFields) → size_fields.encode x
    ≡ exp_golomb_bits x.0 ++ (exp_golomb_bits x.1.0 ++ (exp_golomb_bits x.1.1.0 ++ (exp_golomb_bits x.1.1.1.0 ++ exp_golomb_bits x.1.1.1.1)))
unfolding size_fields sequence
sizes-encode x = refl

pcm-encode : (h : Header) → pcm_fields.encode (pcm_of h) ≡ pcm_bits h
unfolding pcm_fields sequence
pcm-encode h = rw (one_bit-encode h.pcm_loop_filter_disabled_flag)

sps-encode : (h : Header) → sps_fields.encode (h.sps_range_extension_flag, h.sps_extension_7bits) ≡ sps_extension_bits h
unfolding sps_fields sequence
sps-encode h = rw (one_bit-encode h.sps_range_extension_flag)

nine-encode : (l : List Bool) → (fixed Bit 9 15 at_item).encode l ≡ l
unfolding fixed
nine-encode l = refl

pub fields-encode : (h : Header) → header_fields.encode h ≡ header_bits h
unfolding header_fields mapped field_sequence sequence header_bits
fields-encode h =
    rw (
      sizes-encode (sizes_of h),
      one_bit-encode h.sample_adaptive_offset_enabled_flag,
      one_bit-encode h.pcm_enabled_flag,
      optional-encode h.pcm_enabled_flag pcm_fields no_pcm (pcm_of h),
      pcm-encode h,
      one_bit-encode h.strong_intra_smoothing_enabled_flag,
      one_bit-encode h.sps_extension_present_flag,
      optional-encode h.sps_extension_present_flag sps_fields no_sps (h.sps_range_extension_flag, h.sps_extension_7bits),
      sps-encode h,
      optional-encode h.sps_range_extension_flag (fixed Bit 9 15 at_item) (replicate 9 false) h.range_flags,
      nine-encode h.range_flags,
    )
    (simp append_assoc)

pub header-encode : (depth : ℕ) (h : Header) → (header depth).encode h ≡ header_bytes h
unfolding header guarded item sized packed header_bytes
header-encode depth h = rw (fields-encode h)

alpha-encode : (b : Bool) (depth : ℕ) (h : Header) → (select b (header depth) (absent zero_header)).encode h ≡ select b (header_bytes h) []
unfolding select absent
alpha-encode true depth h = header-encode depth h
alpha-encode false depth h = refl

-- ---- the file

pub body-encode : (c : Content) → (body c.flags).encode (c.alpha_header, (c.color_header, c.hevc_data)) ≡ headers_and_data c
unfolding body then_rest alpha_header hevc_bytes guarded_region rest headers_and_data
body-encode c = rw (alpha-encode (has_alpha c.flags) (bit_depth c.flags) c.alpha_header, header-encode (bit_depth c.flags) c.color_header)

pub length-encode : (c : Content) → length_of c ≡ data_length c
unfolding data_length
length-encode c = rw (body-encode c)

pub file-encode : (c : Content) → file.encode c ≡ file_of c
unfolding file mapped_exact with_loop derived parts judged_body guarded_region then_rest item_then_rest flags dimension guarded file_of
file-encode c = rw (length-encode c, block-encode c.flags.extension_present c.extensions, body-encode c)
