-- Request 13/13, in its own words and as types over the definitions that the calls' contracts cite. `proofs/Requirements` proves them.
use Rattle.std.specs.Prelude.{◌≡◌, List, ◌≢◌, ℕ, ◌≤◌, ◌<◌, length, get_or}
use Rattle.bpg_codec.specs.Lawful.{All, Byte}
use Rattle.bpg_format.specs.Rules.{Accepted}
use Rattle.bpg_format.specs.Records.{read_file}
use Rattle.bpg_format.specs.Parts.{entry_of, payload_of, data_of, Inside}
use Rattle.bpg_format.specs.Pictures.{canonical_bytes, canonical_file, canonical_buffer, canonical_size}
use Rattle.bpg_format.specs.Requirements.{bytes}
use Rattle.bpg_payload_edits.specs.Edits.{AgreeOutside, EditedInPlace}

-- "The second is accepted, its record is equal, and every other payload and the data have equal bytes."
pub record Untouched (chosen : ℕ → Type 0) (f g : List ℕ) : Type 0 where
  pub accepted : Accepted g
  -- the whole answer of reading: status and offset 0, the coded size, the record
  pub answer : read_file g ≡ read_file f
  pub payloads : (k : ℕ) → (chosen k → ⊥) → payload_of g k ≡ payload_of f k
  pub data-bytes : data_of g ≡ data_of f

-- for any set of entries whose tag is not 5
abbrev pub PayloadsTouchNothing : Type 1
PayloadsTouchNothing = (chosen : ℕ → Type 0) (f g : List ℕ) → Accepted f → EditedInPlace chosen f g → Untouched chosen f g

-- the same of all of them at once, in the request's own words
abbrev pub Metadata : (f : List ℕ) → ℕ → Type 0
Metadata f k = (entry_of f k).tag ≢ 5

abbrev pub MetadataTouchesNothing : Type 0
MetadataTouchesNothing =
    (f g : List ℕ) → Accepted f → length g ≡ length f → All Byte g
    → ((offset : ℕ) → offset < length f → ((k : ℕ) → (entry_of f k).tag ≢ 5 → Inside offset (entry_of f k).payload → ⊥) → get_or g offset 0 ≡ get_or f offset 0)
    → Untouched (Metadata f) f g

-- The canonical form of the second file is the first's with the same payload bytes changed: x and y are what canonicalizing writes for f and g.
pub record CanonicalUntouched (chosen : ℕ → Type 0) (f g x y : List ℕ) : Type 0 where
  -- the two canonical forms have equal records
  pub answer : read_file y ≡ read_file x
  -- and equal bytes outside those entries' payloads
  pub as_long : length y ≡ length x
  pub outside : AgreeOutside chosen x y
  -- in those payloads, and in every other but the animation control, they have the bytes of their files
  pub first : (k : ℕ) → (entry_of f k).tag ≢ 5 → payload_of x k ≡ payload_of f k
  pub second : (k : ℕ) → (entry_of f k).tag ≢ 5 → payload_of y k ≡ payload_of g k

-- out1 and out2 are the buffers before the two calls
abbrev pub CanonicalFormsTouched : Type 1
CanonicalFormsTouched =
    (chosen : ℕ → Type 0) (f g out1 out2 : List ℕ) (a : Accepted f) → EditedInPlace chosen f g
    → length (canonical_bytes a.0) ≤ length out1 → length (canonical_bytes a.0) ≤ length out2
    → (canonical_file g out2 ≡ canonical_file f out1)
    × CanonicalUntouched chosen f g (bytes (canonical_file f out1) (canonical_buffer f out1)) (bytes (canonical_file g out2) (canonical_buffer g out2))

-- and the size before the buffer is the same
abbrev pub CanonicalSizeUntouched : Type 1
CanonicalSizeUntouched = (chosen : ℕ → Type 0) (f g : List ℕ) → Accepted f → EditedInPlace chosen f g → canonical_size g ≡ canonical_size f
