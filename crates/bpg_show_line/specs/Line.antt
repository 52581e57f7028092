-- The line of a reading, which `bpgshow` prints (document 01, "The desk's examples").
use Rattle.std.specs.Prelude.{Bool, true, false, List, ◌++◌, ℕ, ◌+◌, eqb}
use Rattle.bpg_codec.specs.Select.{select}
use Rattle.bpg_format.specs.declared.record.Record.{Record}
use Rattle.bpg_format.specs.declared.answer.Reading.{Reading}
use Rattle.bpg_show_line.specs.Text.{ascii, decimal}

-- by alpha1 and alpha2
abbrev pub alpha_text : Bool → Bool → List ℕ
alpha_text false false = ascii " alpha none"
alpha_text true false = ascii " alpha plain"
alpha_text true true = ascii " alpha premultiplied"
alpha_text false true = ascii " alpha white"

-- by the limited range flag
abbrev pub range_text : Bool → List ℕ
range_text false = ascii " range full"
range_text true = ascii " range limited"

-- by the animation flag
abbrev pub animation_text : Bool → List ℕ
animation_text false = ascii " still"
animation_text true = ascii " animated"

-- `ext` is the number of entries, `data` the number of data bytes
abbrev pub accepted_line : Record → List ℕ
accepted_line r =
    ascii "size " ++ decimal r.picture_width
    ++ ascii "x" ++ decimal r.picture_height
    ++ ascii " format " ++ decimal r.pixel_format
    ++ ascii " depth " ++ decimal (r.bit_depth_minus_8 + 8)
    ++ ascii " space " ++ decimal r.color_space
    ++ alpha_text r.alpha1_flag r.alpha2_flag
    ++ range_text r.limited_range_flag
    ++ animation_text r.animation_flag
    ++ ascii " ext " ++ decimal r.entry_count
    ++ ascii " data " ++ decimal r.«data».length
    ++ ascii "\n"

-- a refusal's number and place
abbrev pub refused_line : (status offset : ℕ) → List ℕ
refused_line s o = ascii "refused " ++ decimal s ++ ascii " at " ++ decimal o ++ ascii "\n"

abbrev pub line_of : Reading → List ℕ
line_of r = select (eqb r.status 0) (accepted_line r.«record») (refused_line r.status r.offset)
