-- Thumbnails as a relation on files, with no order and no refusals.
use Rattle.std.specs.Prelude.{◌≡◌, List, ◌⊎◌, ◌≢◌, ℕ, suc, ◌+◌, ◌≤◌}
use Rattle.bpg_format.specs.Parts.{record_in, entry_of, payload_of}

-- f has a thumbnail, these bytes, at this offset: the payload of an entry with tag 4. (Past the last entry, and in a refused file, the tag is 0.)
pub data HasThumbnail (f : List ℕ) : (thumbnail : List ℕ) (offset : ℕ) → Type 0 where
  entry : (k : ℕ) → (entry_of f k).tag ≡ 4 → HasThumbnail f (payload_of f k) (entry_of f k).payload.start

-- these bytes are a file at this level and offset of f: "the outer file is level 1", and a thumbnail is one level below its parent
pub data Within (f : List ℕ) : (level : ℕ) → List ℕ → (offset : ℕ) → Type 0 where
  outer : Within f 1 f 0
  inner : (l : ℕ) (g : List ℕ) (o : ℕ) (h : List ℕ) (p : ℕ) → Within f l g o → HasThumbnail g h p → Within f (suc l) h (o + p)

abbrev pub width_of : List ℕ → ℕ
width_of f = (record_in f).picture_width

abbrev pub height_of : List ℕ → ℕ
height_of f = (record_in f).picture_height

-- "neither wider nor taller than its parent, and differ from it in width or height"
pub record Smaller (thumbnail parent : List ℕ) : Type 0 where
  pub width : width_of thumbnail ≤ width_of parent
  pub height : height_of thumbnail ≤ height_of parent
  pub differs : (width_of thumbnail ≢ width_of parent) ⊎ (height_of thumbnail ≢ height_of parent)
