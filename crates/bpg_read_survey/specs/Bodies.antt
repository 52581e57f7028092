-- What the reader of the body (document 01, "Order of the file", items 4 to 7) is given and puts together.
use Rattle.std.specs.Prelude.{◌≡◌, Option, Some, None, Bool, true, List, ℕ, ◌+◌, ◌≤◌, length}
use Rattle.bpg_codec.specs.Outcome.{ok}
use Rattle.bpg_codec.specs.Lawful.{All, Byte}
use Rattle.bpg_ue7.specs.Ue7.{not_zero}
use Rattle.bpg_format.specs.Limits.{max_file}
use Rattle.bpg_format.specs.declared.record.Header.{Header}
use Rattle.bpg_format.specs.Content.{Extension, Content}
use Rattle.bpg_format.specs.Read.{Head, read_head, animation_of}
use Rattle.bpg_head_rules.specs.declared.CodedHead.{CodedHead}
use Rattle.bpg_head_rules.specs.Calls.{is_head}

-- what is known of a file that is not too long, and of its head; the last two follow from the others
pub record HeadRead (file : List ℕ) (h : Head) : Type 0 where
  pub bytes : All Byte file
  pub short : length file ≤ max_file
  pub read : read_head file ≡ ok h
  pub end-inside : h.end ≤ length file
  pub depth-limit : h.flags.bit_depth_minus8 ≤ 6

-- where the headers begin
abbrev pub headers_start : Head → ℕ
headers_start h = h.end + h.extension_length

abbrev pub body_content : Head → List Extension → (alpha color : Header) (bytes : List ℕ) → Content
body_content h es alpha color bytes =
    record {
      flags = h.flags;
      width = h.width;
      height = h.height;
      explicit_length = not_zero h.data_length;
      extensions = es;
      control = animation_of es;
      alpha_header = alpha;
      color_header = color;
      hevc_data = bytes;
    }

-- no head was given, or the one given is this one
abbrev pub asked : (given : Option (List ℕ)) → CodedHead → Bool
asked None h = true
asked (Some l) h = is_head l h
