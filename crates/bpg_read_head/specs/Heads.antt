-- The head of a file (document 01, "Order of the file", items 1 to 3), up to the extension length as a number: whether the lengths fit the
-- file is not judged, and a file of any length is read. `read_head` says what is read; here is what the code's head stands for.
use Rattle.std.specs.Prelude.{Bool, List, ℕ}
use Rattle.bpg_codec.specs.Outcome.{Outcome, Decoded}
use Rattle.bpg_ue7.specs.Ue7.{ue7_decode}
use Rattle.bpg_format.specs.Read.{if_present, Head}
use Rattle.bpg_read_head.specs.declared.head.Head.{Head as PlacedHead}
use Rattle.bpg_read_head.specs.FlagBytes.{flag_fields}

-- what a head that was read says
abbrev pub head_fields : PlacedHead → Head
head_fields h =
    record {
      flags = flag_fields h.flags;
      width = h.picture_width;
      height = h.picture_height;
      data_length = h.data_length;
      data_length_at = h.data_length_at.0;
      extension_length = h.extension_length;
      extension_length_at = h.extension_length_at.0;
      end = h.end.0;
    }

-- the step of `read_head` that a function of its own takes: the extension length, or 0 without the extension flag
abbrev pub read_extension_length : (present : Bool) (p : ℕ) → List ℕ → Outcome (Decoded ℕ ℕ)
read_extension_length present = if_present present 0 (ue7_decode 32)
