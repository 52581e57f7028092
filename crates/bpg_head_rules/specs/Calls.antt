-- The head call (request 9/13): "a head call, up to and including the extension length as a number". `read_head` says what is read; here are the
-- fields that the caller is given, and as what numbers they are compared and handed to C.
use Rattle.std.specs.Prelude.{Bool, List, [], ◌∷◌, ◌++◌, ℕ, T, take}
use Rattle.bpg_codec.specs.Lists.{same, member}
use Rattle.bpg_codec.specs.Outcome.{Outcome, ok, error}
use Rattle.bpg_codec.specs.Bits.{bit}
use Rattle.bpg_format.specs.Read.{Head, read_head}
use Rattle.bpg_read_head.specs.declared.flags.Flags.{Flags as CodedFlags}
use Rattle.bpg_read_head.specs.declared.head.Head.{Head as PlacedHead}
use Rattle.bpg_head_rules.specs.declared.CodedHead.{CodedHead}
use Rattle.bpg_head_rules.specs.declared.HeadReading.{HeadReading}
use Rattle.bpg_read_head.specs.FlagBytes.{zero_flags, coded_flags}

abbrev pub zero_head : CodedHead
zero_head = record { flags = zero_flags; picture_width = 0; picture_height = 0; data_length = 0; extension_length = 0 }

-- what a head says, without the places that later refusals name
abbrev pub coded_head : Head → CodedHead
coded_head h =
    record {
      flags = coded_flags h.flags;
      picture_width = h.width;
      picture_height = h.height;
      data_length = h.data_length;
      extension_length = h.extension_length;
    }

-- the same, of a head as the code holds it
abbrev pub fields_of : PlacedHead → CodedHead
fields_of h =
    record {
      flags = h.flags;
      picture_width = h.picture_width;
      picture_height = h.picture_height;
      data_length = h.data_length;
      extension_length = h.extension_length;
    }

-- ---- the call

abbrev pub refused_head_reading : (status offset : ℕ) → HeadReading
refused_head_reading s o = record { status = s; offset = o; head = zero_head }

abbrev pub head_reading : Outcome Head → HeadReading
head_reading (ok h) = record { status = 0; offset = 0; head = coded_head h }
head_reading (error s o) = refused_head_reading s o

unfoldable pub head_file : List ℕ → HeadReading
head_file f = head_reading (read_head f)

-- "the head gives those of its items, never 1": no other number is given
abbrev pub head_statuses : List ℕ
head_statuses = 2 ∷ 3 ∷ 4 ∷ 5 ∷ 6 ∷ 7 ∷ 8 ∷ 9 ∷ []

abbrev pub HeadStatus : ℕ → Type 0
HeadStatus s = T (member s head_statuses)

-- ---- a head as numbers, in the order of the file; a flag is 1 or 0

abbrev pub flag_numbers : CodedFlags → List ℕ
flag_numbers f =
    f.pixel_format ∷ bit f.alpha1_flag ∷ f.bit_depth_minus_8 ∷ f.color_space
    ∷ bit f.extension_present_flag ∷ bit f.alpha2_flag ∷ bit f.limited_range_flag ∷ bit f.animation_flag ∷ []

abbrev pub head_numbers : CodedHead → List ℕ
head_numbers h = flag_numbers h.flags ++ (h.picture_width ∷ h.picture_height ∷ h.data_length ∷ h.extension_length ∷ [])

-- a list begins with the numbers of this head: no field differs. One that is shorter does not, nor one with a number that no field holds
unfoldable pub is_head : List ℕ → CodedHead → Bool
is_head l h = same (take 12 l) (head_numbers h)
