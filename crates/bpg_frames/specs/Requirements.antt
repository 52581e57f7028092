-- Request 1/13, in its own words and as types over the definitions that the calls' contracts cite. `proofs/Requirements` proves them.
-- Undoing and redoing are in `bpg_nal_emulation/specs/RoundTrips`.
use Rattle.std.specs.Prelude.{◌≡◌, Bool, true, false, List, [], ◌∷◌, ◌++◌, ◌⊎◌, ◌≢◌, ℕ, suc, ◌≤◌, ◌<◌, length, take, drop, get_or}
use Rattle.bpg_codec.specs.Select.{select}
use Rattle.bpg_codec.specs.Outcome.{ok, error}
use Rattle.bpg_codec.specs.Lawful.{All, Byte}
use Rattle.bpg_format.specs.Records.{read_file}
use Rattle.bpg_format.specs.Parts.{record_in, data_of}
use Rattle.bpg_nal_units.specs.declared.nal_header.NalHeader.{NalHeader}
use Rattle.bpg_nal_units.specs.Headers.{header_of}
use Rattle.bpg_nal_units.specs.Units.{Nal}
use Rattle.bpg_nal_units.specs.Whole.{nth, Whole}
use Rattle.bpg_nal_emulation.specs.Emulation.{unescape}
use Rattle.bpg_sei.specs.Messages.{durations_in}
use Rattle.bpg_frame_units.specs.Units.{Said, is_prefix_sei, starts_frame, unit_says}
use Rattle.bpg_frames.specs.Calls.{data_at, alpha_in, units_in, frame_count, frames_call, frames_list}
use Rattle.bpg_frame_units.specs.Answers.{refused_frames}

abbrev pub header_in : Nal → NalHeader
header_in u = header_of (get_or u.bytes 0 0) (get_or u.bytes 1 0)

-- at how many units a frame starts
unfoldable pub frame_starts : List Nal → ℕ
frame_starts [] = 0
frame_starts (u ∷ us) = select (starts_frame u.bytes) (suc (frame_starts us)) (frame_starts us)

-- whether one starts at the last; `none` where there is no unit
unfoldable pub last_starts : (none : Bool) → List Nal → Bool
last_starts none [] = none
last_starts none (u ∷ us) = last_starts (starts_frame u.bytes) us

-- a prefix SEI unit with one message of payload type 257, which has this duration; a unit with none
pub record SetsDuration (u : Nal) (d : ℕ) : Type 0 where
  pub sei : is_prefix_sei (header_in u) ≡ true
  pub one : durations_in (drop 2 (unescape u.bytes)) ≡ ok (d ∷ [])

abbrev pub SetsNone : Nal → Type 0
SetsNone u = is_prefix_sei (header_in u) ≡ true → durations_in (drop 2 (unescape u.bytes)) ≡ ok []

-- "From an accepted file, cut the HEVC data into NAL units at 00 00 01; the first has no start code, and zero bytes before a start code or
-- at the end of the data belong to no unit."
pub record Units : Type 0 where
  -- the units lie in the data in order and share no byte; with the start codes and the zero bytes between them they make up the data
  pub whole : (f : List ℕ) → Whole (data_at f) (data_of f)
  -- the data is the file's end: a unit's offsets are offsets in the file
  pub «data» : (f : List ℕ) → All Byte f → (read_file f).status ≡ 0 → data_of f ≡ drop (data_at f) f

-- "Answer the frame count"
pub record Count : Type 0 where
  pub starts : (f : List ℕ) → (frame_count f).status ≡ 0 → (frame_count f).count ≡ frame_starts (units_in f)
  -- a success is an accepted file, "still" with exactly one frame, "animated" with two or more
  pub accepted : (f : List ℕ) → (frame_count f).status ≡ 0 → (read_file f).status ≡ 0
  pub still : (f : List ℕ) → (frame_count f).status ≡ 0 → (record_in f).animation_flag ≡ false → (frame_count f).count ≡ 1
  pub animated : (f : List ℕ) → (frame_count f).status ≡ 0 → (record_in f).animation_flag ≡ true → 2 ≤ (frame_count f).count

-- "and each duration": what a call of `frames` leaves in the list
module _ (f list : List ℕ) where
  abbrev pub durations : List ℕ
  durations = take (frames_call f list).count (frames_list f list)

pub record Durations : Type 0 where
  -- as many as frames, from the start of the list, and the rest of the list as it was
  pub many : (f list : List ℕ) → (frames_call f list).status ≡ 0
      → ((frames_call f list).count ≡ (frame_count f).count) × (length (durations f list) ≡ (frame_count f).count)
      × (drop (frames_call f list).count (frames_list f list) ≡ drop (frames_call f list).count list)
  -- "sixteen bits, not zero"
  pub range : (f list : List ℕ) → All Byte f → (frames_call f list).status ≡ 0 → All (λ d. (1 ≤ d) × (d ≤ 65535)) (durations f list)
  -- "for the next frame": the unit u sets a duration, no frame starts between, and one starts at v. It is frame `frame_starts before`, from 0
  pub next : (f list : List ℕ) → (frames_call f list).status ≡ 0 → (before : List Nal) (u : Nal) (between : List Nal) (v : Nal) (after : List Nal)
      → units_in f ≡ before ++ (u ∷ (between ++ (v ∷ after))) → frame_starts between ≡ 0 → starts_frame v.bytes ≡ true
      → (d : ℕ) → SetsDuration u d → get_or (durations f list) (frame_starts before) 0 ≡ d
  -- "Without SEI it lasts 1.": none is set from the frame before, or from the first unit, up to v; or there is none at all
  pub alone : (f list : List ℕ) → (frames_call f list).status ≡ 0 → (before between : List Nal) (v : Nal) (after : List Nal)
      → units_in f ≡ before ++ (between ++ (v ∷ after)) → frame_starts between ≡ 0 → starts_frame v.bytes ≡ true
      → last_starts true before ≡ true → All SetsNone between → get_or (durations f list) (frame_starts before) 0 ≡ 1
  pub without-sei : (f list : List ℕ) → (frames_call f list).status ≡ 0
      → All (λ (u : Nal). is_prefix_sei (header_in u) ≡ false) (units_in f) → All (λ d. d ≡ 1) (durations f list)

-- a unit against which neither 22 nor 23 stands
abbrev pub Passes : (alpha : Bool) → Nal → Type 0
Passes alpha u = (x : Said) × (unit_says alpha u.bytes ≡ ok x)

-- "The first unit in data order decides, lower number first, at that unit's first byte, or where it would stand if empty"
pub record FirstRefused (alpha : Bool) (us : List Nal) (status offset : ℕ) : Type 0 where
  pub i : ℕ
  pub unit : i < length us
  pub at : offset ≡ (nth us i).start
  pub before : All (Passes alpha) (take i us)
  -- 22 and 23 are the unit's own; with 24 it has neither
  pub own : status < 24 → (p : ℕ) × (unit_says alpha (nth us i).bytes ≡ error status p)
  pub passes : status ≡ 24 → Passes alpha (nth us i)

-- "Refusals, after the reader's: 22 .. 23 .. 24 .. 25 .. 20 the lent list is shorter than the count."
pub record Refusals : Type 0 where
  -- a refusal has count 0 and leaves the list as it was
  pub count : (f : List ℕ) → (frame_count f).status ≢ 0 → frame_count f ≡ refused_frames (frame_count f).status (frame_count f).offset
  pub list : (f list : List ℕ) → (frames_call f list).status ≢ 0
      → (frames_call f list ≡ refused_frames (frames_call f list).status (frames_call f list).offset) × (frames_list f list ≡ list)
  -- the reader's, with their offsets; then 22 to 24, then 25 "at the first data byte"
  pub read : (f : List ℕ) → (read_file f).status ≢ 0 → frame_count f ≡ refused_frames (read_file f).status (read_file f).offset
  pub then : (f : List ℕ) → (read_file f).status ≡ 0 → (frame_count f).status ≢ 0
      → ((22 ≤ (frame_count f).status) × ((frame_count f).status ≤ 24)) ⊎ (((frame_count f).status ≡ 25) × ((frame_count f).offset ≡ data_at f))
  pub at_unit : (f : List ℕ) → (read_file f).status ≡ 0 → 22 ≤ (frame_count f).status → (frame_count f).status ≤ 24
      → FirstRefused (alpha_in f) (units_in f) (frame_count f).status (frame_count f).offset
  -- `frames` answers as `frame_count` does; a list that is too short is 20 at 0, after all else
  pub same : (f list : List ℕ) → (frame_count f).status ≢ 0 → frames_call f list ≡ frame_count f
  pub holds : (f list : List ℕ) → (frame_count f).status ≡ 0 → (frame_count f).count ≤ length list → frames_call f list ≡ frame_count f
  pub short : (f list : List ℕ) → (frame_count f).status ≡ 0 → length list < (frame_count f).count → frames_call f list ≡ refused_frames 20 0
