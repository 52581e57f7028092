-- The content of a file (document 01, "Record and picture"): the record's fields, with bytes in place of ranges.
use Rattle.std.specs.Prelude.{Bool, true, false, ◌||◌, List, [], ◌∷◌, ℕ, ◌+◌}
use Rattle.bpg_format.specs.declared.record.Header.{Header}

-- bytes 4 and 5 (document 01, "Order of the file", item 2)
pub record Flags : Type 0 where
  pub pixel_format : ℕ
  pub alpha1 : Bool
  pub bit_depth_minus8 : ℕ
  pub color_space : ℕ
  pub extension_present : Bool
  pub alpha2 : Bool
  pub limited_range : Bool
  pub animation : Bool

-- an entry of the extension block (item 4)
pub record Extension : Type 0 where
  pub tag : ℕ
  pub payload : List ℕ

-- the numbers of a tag 5 payload (item 5); all zero where there is none
pub record AnimationControl : Type 0 where
  pub count : ℕ
  pub period_num : ℕ
  pub period_den : ℕ

pub record Content : Type 0 where
  pub flags : Flags
  pub width : ℕ
  pub height : ℕ
  -- the data length is coded as a number (document 01: counted), and not as zero (open)
  pub explicit_length : Bool
  pub extensions : List Extension
  pub control : AnimationControl
  -- the alpha (or W) plane's header, zero where there is none
  pub alpha_header : Header
  pub color_header : Header
  -- item 7
  pub hevc_data : List ℕ

abbrev pub is_empty : List Extension → Bool
is_empty [] = true
is_empty (e ∷ es) = false

-- alpha1 or alpha2: an alpha (or W) plane is there (item 6)
abbrev pub has_alpha : Flags → Bool
has_alpha f = f.alpha1 || f.alpha2

abbrev pub bit_depth : Flags → ℕ
bit_depth f = f.bit_depth_minus8 + 8
