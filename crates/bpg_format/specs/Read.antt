-- Reading a file as a content, or refusing it (document 01, "Order of the file" and "Refusal numbers": reading order), as one chain of steps,
-- each refusal with its number and place. A step is given its offset p and what is left of its region, l; it gives its value, the offset
-- after it (`next`) and what is then left (`rest`). `ue7_decode` refuses with 2, 7 or 8 at the faulty byte, `unsigned_decode` and `exp_golomb_decode` with 15 at `item`.
use Rattle.std.specs.Prelude.{Bool, false, not, ◌&&◌, ◌||◌, List, [], ◌∷◌, ℕ, zero, suc, ◌+◌, ◌*◌, ◌/◌, ◌%◌, T, leb, eqb, length, take, drop, get_or, replicate}
use Rattle.bpg_codec.specs.Select.{select}
use Rattle.bpg_codec.specs.Lists.{same, member}
use Rattle.bpg_codec.specs.Outcome.{Outcome, ok, error, ◌>>=◌, guard, Decoded, decoded}
use Rattle.bpg_codec.specs.Bits.{is_padding, unpack}
use Rattle.bpg_ue7.specs.Ue7.{ue7_decode, not_zero}
use Rattle.bpg_bits.specs.BitNumbers.{unsigned_decode, exp_golomb_decode}
use Rattle.bpg_format.specs.Limits.{max_entries, max_file}
use Rattle.bpg_format.specs.declared.record.Header.{Header}
use Rattle.bpg_format.specs.Zero.{zero_header}
use Rattle.bpg_format.specs.Content.{Flags, Extension, AnimationControl, Content, has_alpha, bit_depth}
use Rattle.bpg_format.specs.Syntax.{magic}
use Rattle.bpg_format.specs.Rules.{is_animation, has_animation, no_animation}
use Rattle.bpg_format.specs.Tests.{color_space_allowed, counts_to_end, no_forbidden_bit, hevc_allowed, data_allowed}

-- what a flag leaves out has this value, and takes no bytes
abbrev pub if_present : {S A : Type 0} → (present : Bool) (absent : A) → ((p : ℕ) → List S → Outcome (Decoded S A)) → (p : ℕ) → List S → Outcome (Decoded S A)
if_present present absent read p l = select present (read p l) (ok (decoded absent p l))

-- ---- items 1 and 2: magic, byte 4, byte 5

-- the bit of a byte whose weight is w, a power of two
abbrev pub flag : (byte w : ℕ) → Bool
flag b w = eqb (b / w % 2) 1

abbrev pub flags_of : (byte4 byte5 : ℕ) → Flags
flags_of b4 b5 =
    record {
      pixel_format = b4 / 32;
      alpha1 = flag b4 16;
      bit_depth_minus8 = b4 % 16;
      color_space = b5 / 16;
      extension_present = flag b5 8;
      alpha2 = flag b5 4;
      limited_range = flag b5 2;
      animation = flag b5 1;
    }

-- fewer than 6 bytes is 2 at place 0; format before depth on byte 4
unfoldable pub read_flags : List ℕ → Outcome Flags
read_flags l =
    let f = flags_of (get_or l 4 0) (get_or l 5 0) in
    guard (leb 6 (length l)) 2 0 >>= λ _.
    guard (same magic (take 4 l)) 3 0 >>= λ _.
    guard (leb f.pixel_format 5) 4 4 >>= λ _.
    guard (leb f.bit_depth_minus8 6) 5 4 >>= λ _.
    guard (color_space_allowed f) 6 5 >>= λ _.
    ok f

-- ---- items 1 to 3: the head

-- what it says, and the places that later refusals name
pub record Head : Type 0 where
  pub flags : Flags
  pub width : ℕ
  pub height : ℕ
  pub data_length : ℕ
  pub data_length_at : ℕ
  -- 0 without the extension flag
  pub extension_length : ℕ
  pub extension_length_at : ℕ
  -- the offset after the head
  pub end : ℕ

-- width, height, data length, with the extension flag the extension length; width and height are not 0
unfoldable pub read_head : List ℕ → Outcome Head
read_head l =
    read_flags l >>= λ f.
    ue7_decode 32 6 (drop 6 l) >>= λ width.
    guard (not_zero width.value) 9 6 >>= λ _.
    ue7_decode 32 width.next width.rest >>= λ height.
    guard (not_zero height.value) 9 width.next >>= λ _.
    ue7_decode 32 height.next height.rest >>= λ size.
    if_present f.extension_present 0 (ue7_decode 32) size.next size.rest >>= λ block.
    ok
    (record {
      flags = f;
      width = width.value;
      height = height.value;
      data_length = size.value;
      data_length_at = height.next;
      extension_length = block.value;
      extension_length_at = size.next;
      end = block.next;
    })

-- ---- item 5: a tag 5 payload

-- loop count, period numerator, period denominator, each period number not 0 (12 as it is read); what follows them is free
unfoldable pub read_animation : (p : ℕ) → List ℕ → Outcome AnimationControl
read_animation p l =
    ue7_decode 16 p l >>= λ count.
    ue7_decode 16 count.next count.rest >>= λ num.
    guard (not_zero num.value) 12 count.next >>= λ _.
    ue7_decode 16 num.next num.rest >>= λ den.
    guard (not_zero den.value) 12 num.next >>= λ _.
    ok (record { count = count.value; period_num = num.value; period_den = den.value })

-- the numbers that were read, or zeros
abbrev pub animation_from : Outcome AnimationControl → AnimationControl
animation_from (ok p) = p
animation_from (error s o) = no_animation

-- the numbers of the entry with tag 5; zeros where there is none
unfoldable pub animation_of : List Extension → AnimationControl
animation_of [] = no_animation
animation_of (e ∷ es) = select (is_animation e) (animation_from (read_animation 0 e.payload)) (animation_of es)

-- ---- item 4: the extension block

-- tag, length, payload fits, 13, its numbers; `seen`: an entry with tag 5 stands before it
unfoldable pub read_entry : (seen : Bool) (p : ℕ) → List ℕ → Outcome (Decoded ℕ Extension)
read_entry seen p l =
    ue7_decode 32 p l >>= λ tag.
    ue7_decode 32 tag.next tag.rest >>= λ size.
    let payload = take size.value size.rest in
    guard (leb size.value (length size.rest)) 2 tag.next >>= λ _.
    guard (not (seen && eqb tag.value 5)) 13 p >>= λ _.
    select (eqb tag.value 5) (read_animation size.next payload) (ok no_animation) >>= λ _.
    ok (decoded (record { tag = tag.value; payload = payload }) (size.next + size.value) (drop size.value size.rest))

-- until the block is used up; one entry too many is 11, before it is looked at
unfoldable pub read_entries : (most : ℕ) (seen : Bool) (p : ℕ) → List ℕ → Outcome (List Extension)
read_entries zero seen p [] = ok []
read_entries zero seen p (x ∷ l) = error 11 p
read_entries (suc most) seen p [] = ok []
read_entries (suc most) seen p (x ∷ l) =
    read_entry seen p (x ∷ l) >>= λ e.
    read_entries most (seen || is_animation e.value) e.next e.rest >>= λ es.
    ok (e.value ∷ es)

-- the block fits, its entries; l is what is left after the head
unfoldable pub read_block : Head → List ℕ → Outcome (List Extension)
read_block h l =
    guard (leb h.extension_length (length l)) 2 h.extension_length_at >>= λ _.
    read_entries max_entries false h.end (take h.extension_length l)

-- ---- item 6: a HEVC header

-- the fields in the specification's order; `item` is the place of the header's length, at which a field that is not there is refused with 15
module _ (item : ℕ) where
  abbrev pub one_flag : (p : ℕ) → List Bool → Outcome (Decoded Bool Bool)
  one_flag p l = unsigned_decode 1 item p l >>= λ x. ok (decoded (eqb x.value 1) x.next x.rest)

  abbrev pub nine_flags : (p : ℕ) → List Bool → Outcome (Decoded Bool (List Bool))
  nine_flags p l = guard (leb 9 (length l)) 15 item >>= λ _. ok (decoded (take 9 l) (p + 9) (drop 9 l))

  unfoldable pub read_fields : (p : ℕ) → List Bool → Outcome (Decoded Bool Header)
  read_fields p l =
      exp_golomb_decode item p l >>= λ min_cb.
      exp_golomb_decode item min_cb.next min_cb.rest >>= λ diff_cb.
      exp_golomb_decode item diff_cb.next diff_cb.rest >>= λ min_tb.
      exp_golomb_decode item min_tb.next min_tb.rest >>= λ diff_tb.
      exp_golomb_decode item diff_tb.next diff_tb.rest >>= λ depth.
      one_flag depth.next depth.rest >>= λ sao.
      one_flag sao.next sao.rest >>= λ pcm.
      if_present pcm.value 0 (unsigned_decode 4 item) pcm.next pcm.rest >>= λ luma.
      if_present pcm.value 0 (unsigned_decode 4 item) luma.next luma.rest >>= λ chroma.
      if_present pcm.value 0 (exp_golomb_decode item) chroma.next chroma.rest >>= λ min_pcm.
      if_present pcm.value 0 (exp_golomb_decode item) min_pcm.next min_pcm.rest >>= λ diff_pcm.
      if_present pcm.value false one_flag diff_pcm.next diff_pcm.rest >>= λ filter.
      one_flag filter.next filter.rest >>= λ strong.
      one_flag strong.next strong.rest >>= λ sps.
      if_present sps.value false one_flag sps.next sps.rest >>= λ range.
      if_present sps.value 0 (unsigned_decode 7 item) range.next range.rest >>= λ seven.
      if_present range.value (replicate 9 false) nine_flags seven.next seven.rest >>= λ nine.
      let header : Header =
      record {
        log2_min_luma_coding_block_size_minus3 = min_cb.value;
        log2_diff_max_min_luma_coding_block_size = diff_cb.value;
        log2_min_transform_block_size_minus2 = min_tb.value;
        log2_diff_max_min_transform_block_size = diff_tb.value;
        max_transform_hierarchy_depth_intra = depth.value;
        sample_adaptive_offset_enabled_flag = sao.value;
        pcm_enabled_flag = pcm.value;
        pcm_sample_bit_depth_luma_minus1 = luma.value;
        pcm_sample_bit_depth_chroma_minus1 = chroma.value;
        log2_min_pcm_luma_coding_block_size_minus3 = min_pcm.value;
        log2_diff_max_min_pcm_luma_coding_block_size = diff_pcm.value;
        pcm_loop_filter_disabled_flag = filter.value;
        strong_intra_smoothing_enabled_flag = strong.value;
        sps_extension_present_flag = sps.value;
        sps_range_extension_flag = range.value;
        sps_extension_7bits = seven.value;
        range_flags = nine.value;
      } in
      ok (decoded header nine.next nine.rest)

-- length, fits, 15, 17, 16, all at the header's length; `depth` is the file's bit depth. After the fields come 0 to 7 zero bits
unfoldable pub read_header : (depth p : ℕ) → List ℕ → Outcome (Decoded ℕ Header)
read_header depth p l =
    ue7_decode 32 p l >>= λ size.
    guard (leb size.value (length size.rest)) 2 p >>= λ _.
    read_fields p (8 * size.next) (unpack (take size.value size.rest)) >>= λ fields.
    guard (is_padding fields.rest) 15 p >>= λ _.
    guard (no_forbidden_bit fields.value) 17 p >>= λ _.
    guard (hevc_allowed depth fields.value) 16 p >>= λ _.
    ok (decoded fields.value (size.next + size.value) (drop size.value size.rest))

-- with alpha1 or alpha2 the alpha plane's header stands first
unfoldable pub read_alpha_header : Flags → (p : ℕ) → List ℕ → Outcome (Decoded ℕ Header)
read_alpha_header f p l = if_present (has_alpha f) zero_header (read_header (bit_depth f)) p l

-- ---- the file

-- what follows the head: the block; 14, then 10; the headers; what is left is the data (item 7), 26 at its first byte
unfoldable pub read_body : Head → List ℕ → Outcome Content
read_body h l =
    let body = drop h.extension_length l in
    read_block h l >>= λ es.
    guard (not h.flags.animation || has_animation es) 14 5 >>= λ _.
    guard (counts_to_end h.data_length (length body)) 10 h.data_length_at >>= λ _.
    read_alpha_header h.flags (h.end + h.extension_length) body >>= λ alpha.
    read_header (bit_depth h.flags) alpha.next alpha.rest >>= λ color.
    guard (data_allowed color.rest) 26 color.next >>= λ _.
    ok
    (record {
      flags = h.flags;
      width = h.width;
      height = h.height;
      explicit_length = not_zero h.data_length;
      extensions = es;
      control = animation_of es;
      alpha_header = alpha.value;
      color_header = color.value;
      hevc_data = color.rest;
    })

-- refusal 1; then file order
unfoldable pub read_content : List ℕ → Outcome Content
read_content l =
    guard (leb (length l) max_file) 1 0 >>= λ _.
    read_head l >>= λ h.
    read_body h (drop h.end l)

-- the refusal numbers of reading: no other is given
abbrev pub reading_statuses : List ℕ
reading_statuses = 1 ∷ 2 ∷ 3 ∷ 4 ∷ 5 ∷ 6 ∷ 7 ∷ 8 ∷ 9 ∷ 10 ∷ 11 ∷ 12 ∷ 13 ∷ 14 ∷ 15 ∷ 16 ∷ 17 ∷ 26 ∷ []

abbrev pub ReadingStatus : ℕ → Type 0
ReadingStatus s = T (member s reading_statuses)
