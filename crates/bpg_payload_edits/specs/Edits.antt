-- A file edited in place (request 13/13): "take an accepted file and a second of equal length that differs only inside payloads whose tag is
-- not 5." A set of entries is a predicate on their indices, from 0.
use Rattle.std.specs.Prelude.{◌≡◌, List, ◌≢◌, ℕ, ◌<◌, length, get_or}
use Rattle.bpg_codec.specs.Lawful.{All, Byte}
use Rattle.bpg_format.specs.declared.record.Entry.{Entry}
use Rattle.bpg_format.specs.Zero.{zero_entry}
use Rattle.bpg_format.specs.Records.{used_entries}
use Rattle.bpg_format.specs.Parts.{record_in, entry_of, Inside}

-- an offset that lies in the payload of a chosen entry
pub record InChosen (chosen : ℕ → Type 0) (entries : List Entry) (offset : ℕ) : Type 0 where
  pub index : ℕ
  pub is-chosen : chosen index
  pub inside : Inside offset (get_or entries index zero_entry).payload

module _ (chosen : ℕ → Type 0) (f g : List ℕ) where
  -- "differs only inside payloads": the two agree at every other offset
  abbrev pub AgreeOutside : Type 0
  AgreeOutside = (offset : ℕ) → offset < length f → (InChosen chosen (used_entries (record_in f)) offset → ⊥) → get_or g offset 0 ≡ get_or f offset 0

  -- g is f with bytes of the chosen payloads changed
  pub record EditedInPlace : Type 0 where
    -- "payloads whose tag is not 5"
    pub not-animation : (k : ℕ) → chosen k → (entry_of f k).tag ≢ 5
    -- "of equal length"
    pub as_long : length g ≡ length f
    -- a file is a list of bytes
    pub bytes : All Byte g
    pub outside : AgreeOutside
