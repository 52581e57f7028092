-- The record of a content and the content of a record over its source (document 01, "Record and picture"), and what reading answers.
use Rattle.std.specs.Prelude.{List, [], ◌∷◌, ◌++◌, map, ℕ, ◌+◌, ◌-◌, ◌*◌, ◌/◌, ◌^◌, length, take, drop, get_or, replicate}
use Rattle.bpg_codec.specs.Select.{select}
use Rattle.bpg_codec.specs.Outcome.{Outcome, ok, error}
use Rattle.bpg_ue7.specs.Ue7.{ue7_bytes}
use Rattle.bpg_format.specs.Limits.{max_entries}
use Rattle.bpg_format.specs.declared.record.Range.{Range}
use Rattle.bpg_format.specs.declared.record.Entry.{Entry}
use Rattle.bpg_format.specs.declared.record.Header.{Header}
use Rattle.bpg_format.specs.declared.record.Record.{Record}
use Rattle.bpg_format.specs.declared.answer.Reading.{Reading}
use Rattle.bpg_format.specs.Zero.{range, zero_entry, zero_header, refused_reading}
use Rattle.bpg_format.specs.Content.{Flags, Extension, AnimationControl, Content, has_alpha}
use Rattle.bpg_format.specs.Syntax.{block_bytes, header_bytes, data_length}
use Rattle.bpg_format.specs.Rules.{min_cb_log2_size_y}
use Rattle.bpg_format.specs.Read.{read_content}

-- ---- from a content to its record: every range follows from the lengths before it

-- the entries of a block whose first entry stands at p: its tag begins there, and that of each later one where the payload before it ends
abbrev pub entries_at : (p : ℕ) → List Extension → List Entry
entries_at p [] = []
entries_at p (e ∷ es) =
    let start = p + length (ue7_bytes e.tag) + length (ue7_bytes (length e.payload)) in
    record { tag = e.tag; payload = range start (length e.payload); tag_offset = p } ∷ entries_at (start + length e.payload) es

-- unused entries are zero
abbrev pub pad_entries : List Entry → List Entry
pad_entries es = es ++ replicate (max_entries - length es) zero_entry

-- where the extension length would stand: after magic, bytes 4 and 5, width, height and data length
unfoldable pub extension_length_start : Content → ℕ
extension_length_start c = 6 + length (ue7_bytes c.width) + length (ue7_bytes c.height) + length (ue7_bytes (data_length c))

unfoldable pub block_start : Content → ℕ
block_start c = extension_length_start c + select c.flags.extension_present (length (ue7_bytes (length (block_bytes c.extensions)))) 0

unfoldable pub data_start : Content → ℕ
data_start c =
    block_start c + length (block_bytes c.extensions) + select (has_alpha c.flags) (length (header_bytes c.alpha_header)) 0
    + length (header_bytes c.color_header)

unfoldable pub record_of : Content → Record
record_of c =
    record {
      pixel_format = c.flags.pixel_format;
      alpha1_flag = c.flags.alpha1;
      bit_depth_minus_8 = c.flags.bit_depth_minus8;
      color_space = c.flags.color_space;
      extension_present_flag = c.flags.extension_present;
      alpha2_flag = c.flags.alpha2;
      limited_range_flag = c.flags.limited_range;
      animation_flag = c.flags.animation;
      picture_width = c.width;
      picture_height = c.height;
      explicit_length = c.explicit_length;
      entry_count = length c.extensions;
      entries = pad_entries (entries_at (block_start c) c.extensions);
      loop_count = c.control.count;
      frame_period_num = c.control.period_num;
      frame_period_den = c.control.period_den;
      headers = c.alpha_header ∷ c.color_header ∷ [];
      «data» = range (data_start c) (length c.hevc_data);
    }

-- a record with these entries
abbrev pub with_entries : Record → List Entry → Record
with_entries r es =
    record {
      pixel_format = r.pixel_format;
      alpha1_flag = r.alpha1_flag;
      bit_depth_minus_8 = r.bit_depth_minus_8;
      color_space = r.color_space;
      extension_present_flag = r.extension_present_flag;
      alpha2_flag = r.alpha2_flag;
      limited_range_flag = r.limited_range_flag;
      animation_flag = r.animation_flag;
      picture_width = r.picture_width;
      picture_height = r.picture_height;
      explicit_length = r.explicit_length;
      entry_count = r.entry_count;
      entries = es;
      loop_count = r.loop_count;
      frame_period_num = r.frame_period_num;
      frame_period_den = r.frame_period_den;
      headers = r.headers;
      «data» = r.«data»;
    }

-- ---- from a record over its source to its content: the bytes in place of the ranges

abbrev pub bytes_in : List ℕ → Range → List ℕ
bytes_in source r = take r.length (drop r.start source)

abbrev pub extension_of : List ℕ → Entry → Extension
extension_of source e = record { tag = e.tag; payload = bytes_in source e.payload }

abbrev pub used_entries : Record → List Entry
used_entries r = take r.entry_count r.entries

abbrev pub record_flags : Record → Flags
record_flags r =
    record {
      pixel_format = r.pixel_format;
      alpha1 = r.alpha1_flag;
      bit_depth_minus8 = r.bit_depth_minus_8;
      color_space = r.color_space;
      extension_present = r.extension_present_flag;
      alpha2 = r.alpha2_flag;
      limited_range = r.limited_range_flag;
      animation = r.animation_flag;
    }

abbrev pub record_animation : Record → AnimationControl
record_animation r = record { count = r.loop_count; period_num = r.frame_period_num; period_den = r.frame_period_den }

unfoldable pub content_of : Record → List ℕ → Content
content_of r source =
    record {
      flags = record_flags r;
      width = r.picture_width;
      height = r.picture_height;
      explicit_length = r.explicit_length;
      extensions = map (extension_of source) (used_entries r);
      control = record_animation r;
      alpha_header = get_or r.headers 0 zero_header;
      color_header = get_or r.headers 1 zero_header;
      hevc_data = bytes_in source r.«data»;
    }

-- ---- what reading answers

-- rounded up to a multiple of 2^MinCb of the colour header
abbrev pub coded_size : Header → ℕ → ℕ
coded_size h n = (n + 2 ^ min_cb_log2_size_y h - 1) / 2 ^ min_cb_log2_size_y h * 2 ^ min_cb_log2_size_y h

abbrev pub answer_of : Outcome Content → Reading
answer_of (ok c) =
    record {
      status = 0;
      offset = 0;
      coded_width = coded_size c.color_header c.width;
      coded_height = coded_size c.color_header c.height;
      «record» = record_of c;
    }
answer_of (error s o) = refused_reading s o

unfoldable pub read_file : List ℕ → Reading
read_file f = answer_of (read_content f)
