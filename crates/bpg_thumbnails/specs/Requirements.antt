-- Request 4/13, in its own words and as types over the definition that the call's contract cites. `proofs/Requirements` proves them.
use Rattle.std.specs.Prelude.{◌≡◌, List, ◌↔◌, ◌≢◌, ℕ, suc, ◌+◌, ◌≤◌, ◌<◌, length, take, drop}
use Rattle.bpg_codec.specs.Lawful.{All, Byte}
use Rattle.bpg_format.specs.Records.{read_file}
use Rattle.bpg_format.specs.Parts.{entry_of}
use Rattle.bpg_thumbnails.specs.Nested.{HasThumbnail, Within, Smaller}
use Rattle.bpg_thumbnails.specs.Calls.{passed, refused, check_thumbnails}

-- "Accepted exactly when all levels comply and there is no level 5."
pub record Complies (f : List ℕ) : Type 0 where
  pub accepted : (read_file f).status ≡ 0
  -- "Each must be accepted by the plain reading, be neither wider nor taller than its parent, and differ from it in width or height."
  pub thumbnails : (l : ℕ) (g : List ℕ) (o : ℕ) (h : List ℕ) (p : ℕ) → Within f l g o → HasThumbnail g h p → ((read_file h).status ≡ 0) × Smaller h g
  -- "there is no level 5"
  pub no-level-5 : (g : List ℕ) (o : ℕ) → Within f 5 g o → ⊥

pub record Exactly : Type 0 where
  pub complies : (f : List ℕ) → ((check_thumbnails f).status ≡ 0) ↔ Complies f
  -- a success has offset 0
  pub success : (f : List ℕ) → (check_thumbnails f).status ≡ 0 → check_thumbnails f ≡ passed
  -- an accepted file without tag 4 passes
  pub without : (f : List ℕ) → (read_file f).status ≡ 0 → ((k : ℕ) → (entry_of f k).tag ≢ 4) → check_thumbnails f ≡ passed

-- what is wrong with the thumbnail h of g that a refusal names, where h stands at this level
pub data Fault (level : ℕ) (g h : List ℕ) : (status : ℕ) → Type 0 where
  -- "27 level 5 reached": it is not looked into, whatever its bytes are
  too-deep : level ≡ 5 → Fault level g h 27
  -- "28 thumbnail itself refused"
  refused-itself : level < 5 → (read_file h).status ≢ 0 → Fault level g h 28
  -- "29 not smaller"
  not-smaller : level < 5 → (read_file h).status ≡ 0 → (Smaller h g → ⊥) → Fault level g h 29

-- a thumbnail at a level below f that has this fault, and its payload's place in f
pub record Faulty (f : List ℕ) (status offset : ℕ) : Type 0 where
  pub level : ℕ
  pub parent : List ℕ
  pub start : ℕ
  pub within : Within f level parent start
  pub thumbnail : List ℕ
  pub own-offset : ℕ
  pub has : HasThumbnail parent thumbnail own-offset
  pub fault : Fault (suc level) parent thumbnail status
  pub at : offset ≡ start + own-offset

pub record Refusals : Type 0 where
  -- "the outer file's own first"
  pub outer : (f : List ℕ) → (read_file f).status ≢ 0 → check_thumbnails f ≡ refused (read_file f).status (read_file f).offset
  -- then that of a thumbnail with this fault, "at the payload's place in the outer file"
  pub inner : (f : List ℕ) → (read_file f).status ≡ 0 → (check_thumbnails f).status ≢ 0 → Faulty f (check_thumbnails f).status (check_thumbnails f).offset
  -- "in file order and for each thumbnail before its children": of all that have a fault it is the first one in the outer file. (Payloads lie in
  -- order, and a child's payload inside its parent's.)
  pub first : (f : List ℕ) → All Byte f → (read_file f).status ≡ 0 → (s o : ℕ) → Faulty f s o → (check_thumbnails f).offset ≤ o
  -- the bytes of a file at a level stand at its offset of the outer file
  pub in_place : (f : List ℕ) (l : ℕ) (g : List ℕ) (o : ℕ) → Within f l g o → g ≡ take (length g) (drop o f)
