-- A record with the canonical choices (document 01, "Record and picture": the tidy form): (a) open; (b) no extension flag where there is no
-- entry; (c) in each header the SPS extension absent where all nine flags are zero, else present with the range flag; (d) no dummy bytes.
use Rattle.std.specs.Prelude.{Bool, false, not, ◌&&◌, List, [], ◌∷◌, map, ℕ, zero, suc, ◌+◌, eqb, length}
use Rattle.bpg_codec.specs.Select.{select}
use Rattle.bpg_ue7.specs.Ue7.{ue7_bytes}
use Rattle.bpg_format.specs.declared.record.Entry.{Entry}
use Rattle.bpg_format.specs.declared.record.Header.{Header}
use Rattle.bpg_format.specs.declared.record.Record.{Record}
use Rattle.bpg_format.specs.Zero.{range}
use Rattle.bpg_format.specs.Pictures.{picture_header, header_with, needs_range}

-- the three numbers of tag 5
abbrev pub loop_size : Record → ℕ
loop_size r = length (ue7_bytes r.loop_count) + length (ue7_bytes r.frame_period_num) + length (ue7_bytes r.frame_period_den)

-- (d)
abbrev pub canonical_entry : (size : ℕ) → Entry → Entry
canonical_entry n e = select (eqb e.tag 5) (record { tag = e.tag; payload = range e.payload.start n; tag_offset = e.tag_offset }) e

-- one of the nine flags is set, which are there with the range flag
abbrev pub has_range : Header → Bool
has_range h = h.sps_range_extension_flag && needs_range (picture_header h)

-- (c)
abbrev pub canonical_header : Header → Header
canonical_header h = header_with (has_range h) (has_range h) (picture_header h)

abbrev pub record_with : (extension explicit : Bool) → List Entry → List Header → Record → Record
record_with extension explicit es hs r =
    record {
      pixel_format = r.pixel_format;
      alpha1_flag = r.alpha1_flag;
      bit_depth_minus_8 = r.bit_depth_minus_8;
      color_space = r.color_space;
      extension_present_flag = extension;
      alpha2_flag = r.alpha2_flag;
      limited_range_flag = r.limited_range_flag;
      animation_flag = r.animation_flag;
      picture_width = r.picture_width;
      picture_height = r.picture_height;
      explicit_length = explicit;
      entry_count = r.entry_count;
      entries = es;
      loop_count = r.loop_count;
      frame_period_num = r.frame_period_num;
      frame_period_den = r.frame_period_den;
      headers = hs;
      «data» = r.«data»;
    }

-- a list with its first elements changed
abbrev pub changed : {A : Type 0} → (A → A) → (count : ℕ) → List A → List A
changed f zero l = l
changed f (suc n) [] = []
changed f (suc n) (x ∷ l) = f x ∷ changed f n l

-- the entries in use
abbrev pub canonical_entries : (size : ℕ) → Record → Record
canonical_entries n r =
    record_with r.extension_present_flag r.explicit_length (changed (canonical_entry n) r.entry_count r.entries) r.headers r

-- (a), (b) and (c)
abbrev pub canonical_flags : Record → Record
canonical_flags r = record_with (not (eqb r.entry_count 0)) false r.entries (map canonical_header r.headers) r

abbrev pub canonical_record : Record → Record
canonical_record r = canonical_entries (loop_size r) (canonical_flags r)
