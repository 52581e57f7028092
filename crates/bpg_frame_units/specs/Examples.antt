-- Worked examples of frames in data that stands at 14, by computation.
use Rattle.std.specs.Prelude.{◌≡◌, refl, Bool, true, false, List, [], ◌∷◌, ◌++◌, ℕ}
use Rattle.bpg_codec.specs.Select.{select}
use Rattle.bpg_codec.specs.Outcome.{Outcome, ok, error}
use Rattle.bpg_codec.specs.Lawful.{All}
use Rattle.bpg_nal_units.specs.Search.{offset_of}
use Rattle.bpg_nal_units.specs.Units.{trim_byte, trim_zeros, units_up_to, units}
use Rattle.bpg_nal_emulation.specs.Emulation.{zeros_after, unescape_from, keeps_rules}
use Rattle.bpg_sei.specs.Messages.{sum_from, payload_of, message_of, ends, messages_up_to}
use Rattle.bpg_frame_units.specs.Units.{slice_says, sei_says, other_says, kind_says, unit_says}
use Rattle.bpg_frame_units.specs.Frames.{judged, nothing, wait_after, timed, frames_from}

-- a slice at which a frame starts, one that goes on, the start code, and a duration of 5 after a message of another type
abbrev start : List ℕ
start = 0x26 ∷ 1 ∷ 0x80 ∷ []

abbrev more : List ℕ
more = 0x26 ∷ 1 ∷ 0x40 ∷ []

abbrev code : List ℕ
code = 0 ∷ 0 ∷ 1 ∷ []

abbrev lasts : List ℕ
lasts = 0x4E ∷ 1 ∷ 5 ∷ 1 ∷ 9 ∷ 0xFF ∷ 2 ∷ 2 ∷ 0 ∷ 5 ∷ 0x80 ∷ []

pub data Example : Type 0 where
  example : (alpha : Bool) → List ℕ → Outcome (List ℕ) → Example

abbrev pub Holds : Example → Type 0
Holds (example alpha l o) = frames_from alpha (units 14 l) nothing [] ≡ o

abbrev pub examples : List Example
examples =
    example false (start ++ code ++ more ++ code ++ lasts ++ code ++ start) (ok (1 ∷ 5 ∷ []))
    -- a duration with no frame after it: at its unit
    ∷ example false (start ++ code ++ lasts) (error 24 20)
    -- two durations with no frame start between
    ∷ example false (lasts ++ code ++ more ++ code ++ lasts ++ code ++ start) (error 24 34)
    -- a layer 1 slice without alpha, and with it
    ∷ example false (start ++ code ++ (0x26 ∷ 9 ∷ 0x80 ∷ [])) (error 23 20)
    ∷ example true (start ++ code ++ (0x26 ∷ 9 ∷ 0x80 ∷ [])) (ok (1 ∷ []))
    -- file A's data, a slice with nothing after its header; and no data
    ∷ example false (0x26 ∷ 1 ∷ []) (error 22 14)
    ∷ example false [] (error 22 14)
    ∷ []

hold : All Holds examples
unfolding select offset_of trim_byte trim_zeros units_up_to zeros_after unescape_from keeps_rules sum_from payload_of message_of ends messages_up_to
    slice_says sei_says other_says kind_says unit_says judged wait_after timed frames_from
hold = (refl, (refl, (refl, (refl, (refl, (refl, (refl, tt)))))))
