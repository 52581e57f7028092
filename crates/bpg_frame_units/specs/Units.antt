-- What a unit is judged by, and what it says of frames (request 1/13). A refusal stands at the unit's first byte: offset 0 here.
use Rattle.std.specs.Prelude.{Bool, false, not, ◌&&◌, ◌||◌, List, [], ℕ, eqb, ltb, leb, length, drop, get_or}
use Rattle.bpg_codec.specs.Select.{select}
use Rattle.bpg_codec.specs.Outcome.{Outcome, ok, ◌>>=◌, guard}
use Rattle.bpg_nal_units.specs.declared.nal_header.NalHeader.{NalHeader}
use Rattle.bpg_nal_units.specs.Headers.{header_of}
use Rattle.bpg_nal_emulation.specs.Emulation.{unescape, keeps_rules}
use Rattle.bpg_sei.specs.Messages.{durations_in}

-- a unit says whether a frame starts in it, and sets durations for the frames after it
pub record Said : Type 0 where
  pub starts : Bool
  pub durations : List ℕ

-- "a slice unit (types 0 to 31) of layer 0"
abbrev pub is_slice : NalHeader → Bool
is_slice h = eqb h.nuh_layer_id 0 && ltb h.nal_unit_type 32

-- "A frame starts at a slice unit (types 0 to 31) of layer 0 whose first bit after the header is 1"
abbrev pub starts_frame : List ℕ → Bool
starts_frame u = is_slice (header_of (get_or u 0 0) (get_or u 1 0)) && leb 128 (get_or u 2 0)

-- 22: "a layer 0 slice with nothing after its header"
unfoldable pub slice_says : List ℕ → Outcome Said
slice_says u = guard (leb 3 (length u)) 22 0 >>= λ _. ok (record { starts = leb 128 (get_or u 2 0); durations = [] })

-- "the prefix SEI (type 39, layer 0)"
abbrev pub is_prefix_sei : NalHeader → Bool
is_prefix_sei h = eqb h.nuh_layer_id 0 && eqb h.nal_unit_type 39

-- 22: "SEI messages cut short or a 257 not of two bytes"
unfoldable pub sei_says : List ℕ → Outcome Said
sei_says u = durations_in (drop 2 (unescape u)) >>= λ ds. ok (record { starts = false; durations = ds })

-- 23: "layer above 1, layer 1 without alpha, or VPS or SPS" (types 32 and 33)
abbrev pub allowed_unit : (alpha : Bool) → NalHeader → Bool
allowed_unit alpha h =
    (eqb h.nuh_layer_id 0 || (eqb h.nuh_layer_id 1 && alpha))
    && (not (eqb h.nal_unit_type 32) && not (eqb h.nal_unit_type 33))

unfoldable pub other_says : (alpha : Bool) → NalHeader → Outcome Said
other_says alpha h = guard (allowed_unit alpha h) 23 0 >>= λ _. ok (record { starts = false; durations = [] })

unfoldable pub kind_says : (alpha : Bool) → List ℕ → NalHeader → Outcome Said
kind_says alpha u h = select (is_slice h) (slice_says u) (select (is_prefix_sei h) (sei_says u) (other_says alpha h))

-- 22: "a unit below two bytes (an empty first one too), forbidden bit 1, temporal id plus 1 of 0, an emulation rule broken"
unfoldable pub unit_says : (alpha : Bool) → List ℕ → Outcome Said
unit_says alpha u =
    let h = header_of (get_or u 0 0) (get_or u 1 0) in
    guard (leb 2 (length u)) 22 0 >>= λ _.
    guard (not h.forbidden_zero_bit) 22 0 >>= λ _.
    guard (not (eqb h.nuh_temporal_id_plus1 0)) 22 0 >>= λ _.
    guard (keeps_rules u) 22 0 >>= λ _.
    kind_says alpha u h
