-- Writing (document 01, "Refusal numbers", writer): 11, 18, 19, then the rules in file order, 1, 20; always at place 0.
use Rattle.std.specs.Prelude.{Bool, true, false, not, ◌&&◌, ◌||◌, List, [], ◌∷◌, ◌++◌, ◌≡◌, ℕ, ◌+◌, ◌-◌, ◌^◌, ◌≤◌, ◌<◌, T, leb, ltb, eqb, length, drop, get_or}
use Rattle.bpg_codec.specs.Select.{select}
use Rattle.bpg_codec.specs.Lists.{member}
use Rattle.bpg_codec.specs.Outcome.{Outcome, ok, error, ◌>>=◌, guard}
use Rattle.bpg_codec.specs.Lawful.{All}
use Rattle.bpg_codec.specs.Bits.{all_zero}
use Rattle.bpg_ue7.specs.Ue7.{not_zero}
use Rattle.bpg_format.specs.Limits.{max_entries, max_file}
use Rattle.bpg_format.specs.declared.record.Range.{Range}
use Rattle.bpg_format.specs.declared.record.Entry.{Entry}
use Rattle.bpg_format.specs.declared.record.Header.{Header}
use Rattle.bpg_format.specs.declared.record.Record.{Record}
use Rattle.bpg_format.specs.declared.answer.Written.{Written}
use Rattle.bpg_format.specs.Zero.{range, zero_header, refused_written}
use Rattle.bpg_format.specs.Content.{is_empty, Extension, AnimationControl, Content, has_alpha, bit_depth}
use Rattle.bpg_format.specs.Syntax.{file_of}
use Rattle.bpg_format.specs.Rules.{is_animation, has_animation, no_animation, Rules}
use Rattle.bpg_format.specs.Tests.{color_space_allowed, no_forbidden_bit, hevc_allowed, data_allowed}
use Rattle.bpg_format.specs.Read.{read_animation}
use Rattle.bpg_format.specs.Records.{used_entries, content_of}

-- ---- refusal 18: a range outside the source

abbrev pub in_source : List ℕ → Range → Bool
in_source source r = leb (r.start + r.length) (length source)

abbrev pub entries_in_source : List ℕ → List Entry → Bool
entries_in_source source [] = true
entries_in_source source (e ∷ es) = in_source source e.payload && entries_in_source source es

unfoldable pub ranges_in_source : List ℕ → Record → Bool
ranges_in_source source r = entries_in_source source (used_entries r) && in_source source r.«data»

-- ---- refusal 19: unused or absent field not zero, presence flags that contradict

-- an unused entry's tag offset is not looked at (request 11/13)
abbrev pub is_zero : Entry → Bool
is_zero e = eqb e.tag 0 && (eqb e.payload.start 0 && eqb e.payload.length 0)

abbrev pub zero_entries : List Entry → Bool
zero_entries [] = true
zero_entries (e ∷ es) = is_zero e && zero_entries es

unfoldable pub unused_zero : Record → Bool
unused_zero r = zero_entries (drop r.entry_count r.entries)

abbrev pub pcm_zero : Header → Bool
pcm_zero h =
    eqb h.pcm_sample_bit_depth_luma_minus1 0
    && (eqb h.pcm_sample_bit_depth_chroma_minus1 0
    && (eqb h.log2_min_pcm_luma_coding_block_size_minus3 0
    && (eqb h.log2_diff_max_min_pcm_luma_coding_block_size 0
    && not h.pcm_loop_filter_disabled_flag)))

-- PCM fields without PCM; range flag or seven bits without the SPS extension; one of the nine without the range flag
unfoldable pub absent_zero : Header → Bool
absent_zero h =
    (h.pcm_enabled_flag || pcm_zero h)
    && ((h.sps_extension_present_flag || (not h.sps_range_extension_flag && eqb h.sps_extension_7bits 0))
    && (h.sps_range_extension_flag || all_zero h.range_flags))

unfoldable pub header_zero : Header → Bool
header_zero h =
    eqb h.log2_min_luma_coding_block_size_minus3 0
    && (eqb h.log2_diff_max_min_luma_coding_block_size 0
    && (eqb h.log2_min_transform_block_size_minus2 0
    && (eqb h.log2_diff_max_min_transform_block_size 0
    && (eqb h.max_transform_hierarchy_depth_intra 0
    && (not h.sample_adaptive_offset_enabled_flag
    && (not h.pcm_enabled_flag
    && (not h.strong_intra_smoothing_enabled_flag
    && (not h.sps_extension_present_flag && absent_zero h))))))))

abbrev pub same_animation : AnimationControl → AnimationControl → Bool
same_animation p q = eqb p.count q.count && (eqb p.period_num q.period_num && eqb p.period_den q.period_den)

-- no entries without the extension flag; no loop numbers without a tag 5 entry; no alpha header without alpha; in each header, what a flag
-- leaves out is zero
unfoldable pub consistent : Content → Bool
consistent c =
    (c.flags.extension_present || is_empty c.extensions)
    && ((has_animation c.extensions || same_animation c.control no_animation)
    && ((has_alpha c.flags || header_zero c.alpha_header)
    && (absent_zero c.alpha_header && absent_zero c.color_header)))

-- ---- the rules in file order

-- a refusal of reading, at place 0
abbrev pub at_zero : {A : Type 0} → Outcome A → Outcome A
at_zero (ok a) = ok a
at_zero (error s o) = error s 0

-- a tag 5 payload's own refusals, then 19 if the loop numbers differ
unfoldable pub check_animation : AnimationControl → List ℕ → Outcome (Unit {0})
check_animation p l = at_zero (read_animation 0 l) >>= λ x. guard (same_animation p x) 19 0

unfoldable pub check_entries : AnimationControl → (seen : Bool) → List Extension → Outcome (Unit {0})
check_entries p seen [] = ok tt
check_entries p seen (e ∷ es) =
    guard (not (seen && is_animation e)) 13 0 >>= λ _.
    select (is_animation e) (check_animation p e.payload) (ok tt) >>= λ _.
    check_entries p (seen || is_animation e) es

-- a ue(v) field of 2^32 - 1 is 15
abbrev pub coded : ℕ → Bool
coded v = ltb v (2 ^ 32 - 1)

unfoldable pub fields_coded : Header → Bool
fields_coded h =
    coded h.log2_min_luma_coding_block_size_minus3
    && (coded h.log2_diff_max_min_luma_coding_block_size
    && (coded h.log2_min_transform_block_size_minus2
    && (coded h.log2_diff_max_min_transform_block_size
    && (coded h.max_transform_hierarchy_depth_intra
    && (not h.pcm_enabled_flag
    || (coded h.log2_min_pcm_luma_coding_block_size_minus3 && coded h.log2_diff_max_min_pcm_luma_coding_block_size))))))

unfoldable pub check_header : (depth : ℕ) → Header → Outcome (Unit {0})
check_header depth h =
    guard (fields_coded h) 15 0 >>= λ _.
    guard (no_forbidden_bit h) 17 0 >>= λ _.
    guard (hevc_allowed depth h) 16 0

unfoldable pub check_content : Content → Outcome (Unit {0})
check_content c =
    guard (leb c.flags.pixel_format 5) 4 0 >>= λ _.
    guard (leb c.flags.bit_depth_minus8 6) 5 0 >>= λ _.
    guard (color_space_allowed c.flags) 6 0 >>= λ _.
    guard (not_zero c.width) 9 0 >>= λ _.
    guard (not_zero c.height) 9 0 >>= λ _.
    check_entries c.control false c.extensions >>= λ _.
    guard (not c.flags.animation || has_animation c.extensions) 14 0 >>= λ _.
    select (has_alpha c.flags) (check_header (bit_depth c.flags) c.alpha_header) (ok tt) >>= λ _.
    check_header (bit_depth c.flags) c.color_header >>= λ _.
    guard (data_allowed c.hevc_data) 26 0

-- ---- what writing answers, and what stands in the buffer

-- the bytes of a content, where they are not too many and the buffer holds them
unfoldable pub sized_file : (capacity : ℕ) → Content → Outcome (List ℕ)
sized_file capacity c =
    guard (leb (length (file_of c)) max_file) 1 0 >>= λ _.
    guard (leb (length (file_of c)) capacity) 20 0 >>= λ _.
    ok (file_of c)

-- the refusals but for those of size
unfoldable pub check_record : Record → (source : List ℕ) → Outcome (Unit {0})
check_record r source =
    guard (leb r.entry_count max_entries) 11 0 >>= λ _.
    guard (ranges_in_source source r) 18 0 >>= λ _.
    guard (unused_zero r && consistent (content_of r source)) 19 0 >>= λ _.
    check_content (content_of r source)

unfoldable pub write_outcome : (capacity : ℕ) → Record → (source : List ℕ) → Outcome (List ℕ)
write_outcome capacity r source = check_record r source >>= λ _. sized_file capacity (content_of r source)

-- a success writes its bytes from the start of the buffer; a refusal leaves it as it was
abbrev pub written_answer : Outcome (List ℕ) → Written
written_answer (ok l) = record { status = 0; offset = 0; count = length l }
written_answer (error s o) = refused_written s o

abbrev pub written_buffer : Outcome (List ℕ) → List ℕ → List ℕ
written_buffer (ok l) out = l ++ drop (length l) out
written_buffer (error s o) out = out

unfoldable pub write_file : Record → (source out : List ℕ) → Written
write_file r source out = written_answer (write_outcome (length out) r source)

unfoldable pub write_buffer : Record → (source out : List ℕ) → List ℕ
write_buffer r source out = written_buffer (write_outcome (length out) r source) out

-- the answer before there is a buffer: what writing answers to one that holds the file. A file that is written has at most `max_file` bytes, and
-- a longer one is refused with 1 before its buffer is looked at, so 20 cannot come
unfoldable pub write_size : Record → (source : List ℕ) → Written
write_size r source = written_answer (write_outcome max_file r source)

-- the refusal numbers before the buffer is looked at, and those of writing: no other is given
abbrev pub sizing_statuses : List ℕ
sizing_statuses = 1 ∷ 2 ∷ 4 ∷ 5 ∷ 6 ∷ 7 ∷ 8 ∷ 9 ∷ 11 ∷ 12 ∷ 13 ∷ 14 ∷ 15 ∷ 16 ∷ 17 ∷ 18 ∷ 19 ∷ 26 ∷ []

abbrev pub SizingStatus : ℕ → Type 0
SizingStatus s = T (member s sizing_statuses)

abbrev pub writing_statuses : List ℕ
writing_statuses = 20 ∷ sizing_statuses

abbrev pub WritingStatus : ℕ → Type 0
WritingStatus s = T (member s writing_statuses)

-- ---- the records that are written

-- what a record's types give, as far as it is needed to know which records are written
pub record Typed (r : Record) : Type 0 where
  pub width : r.picture_width < 2 ^ 32
  pub height : r.picture_height < 2 ^ 32
  pub tags : All (λ (e : Entry). e.tag < 2 ^ 32) r.entries
  pub alpha-nine : length (get_or r.headers 0 zero_header).range_flags ≡ 9
  pub color-nine : length (get_or r.headers 1 zero_header).range_flags ≡ 9

-- an entry that is zero, whatever its tag offset is
abbrev pub ZeroEntry : Entry → Type 0
ZeroEntry e = (e.tag ≡ 0) × (e.payload ≡ range 0 0)

-- a record that is written: its count is within the limit, the ranges in use lie in the source, unused entries are zero, its content keeps
-- the rules (absent fields are zero among them), and the buffer holds its file
pub record Writable (capacity : ℕ) (r : Record) (source : List ℕ) : Type 0 where
  pub few : r.entry_count ≤ max_entries
  pub payloads : All (λ (e : Entry). e.payload.start + e.payload.length ≤ length source) (used_entries r)
  pub data-range : r.«data».start + r.«data».length ≤ length source
  pub unused : All ZeroEntry (drop r.entry_count r.entries)
  pub rules : Rules (content_of r source)
  pub holds : length (file_of (content_of r source)) ≤ capacity
