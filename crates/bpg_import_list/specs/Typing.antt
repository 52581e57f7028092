-- What a record's types give, in full: each number fits its field, and each array has its length. Any record of a program is of this kind.
use Rattle.std.specs.Prelude.{◌≡◌, List, [], ◌∷◌, ℕ, ◌^◌, ◌≤◌, ◌<◌, length, drop}
use Rattle.bpg_codec.specs.Lawful.{All}
use Rattle.bpg_format.specs.Limits.{max_entries}
use Rattle.bpg_format.specs.declared.record.Entry.{Entry}
use Rattle.bpg_format.specs.declared.record.Header.{Header}
use Rattle.bpg_format.specs.declared.record.Record.{Record}
use Rattle.bpg_format.specs.Zero.{zero_entry}
use Rattle.bpg_export_list.specs.Numbers.{range_numbers, entry_numbers, animation_numbers}

-- numbers of so many bits
abbrev pub OfBits : (n : ℕ) → List ℕ → Type 0
OfBits n l = All (λ (x : ℕ). x < 2 ^ n) l

pub record TypedHeader (h : Header) : Type 0 where
  pub blocks :
      OfBits 32
      (h.log2_min_luma_coding_block_size_minus3 ∷ h.log2_diff_max_min_luma_coding_block_size
      ∷ h.log2_min_transform_block_size_minus2 ∷ h.log2_diff_max_min_transform_block_size ∷ h.max_transform_hierarchy_depth_intra ∷ [])
  pub pcm-blocks : OfBits 32 (h.log2_min_pcm_luma_coding_block_size_minus3 ∷ h.log2_diff_max_min_pcm_luma_coding_block_size ∷ [])
  pub depths : OfBits 8 (h.pcm_sample_bit_depth_luma_minus1 ∷ h.pcm_sample_bit_depth_chroma_minus1 ∷ [])
  pub seven-bits : h.sps_extension_7bits < 2 ^ 8
  pub nine : length h.range_flags ≡ 9

pub record TypedRecord (r : Record) : Type 0 where
  pub flags : OfBits 8 (r.pixel_format ∷ r.bit_depth_minus_8 ∷ r.color_space ∷ [])
  pub size : OfBits 32 (r.picture_width ∷ r.picture_height ∷ r.entry_count ∷ [])
  pub entries : All (λ (e : Entry). OfBits 32 (entry_numbers e)) r.entries
  pub whole : length r.entries ≡ max_entries
  pub control : OfBits 16 (animation_numbers r)
  pub headers : All TypedHeader r.headers
  pub two : length r.headers ≡ 2
  pub data-range : OfBits 32 (range_numbers r.«data»)

-- a record that a list can give: no more entries in use than there are, and the others zero
pub record Listable (r : Record) : Type 0 where
  pub typed : TypedRecord r
  pub few : r.entry_count ≤ max_entries
  pub unused : All (λ (e : Entry). e ≡ zero_entry) (drop r.entry_count r.entries)
