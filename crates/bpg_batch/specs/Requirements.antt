-- Request 5/13, in its own words and as types over the definitions that the call's contract cites. `proofs/Requirements` proves them.
use Rattle.std.specs.Prelude.{◌≡◌, List, [], ◌∷◌, ◌++◌, map, ◌↔◌, ◌≢◌, ℕ, ◌≤◌, ◌<◌, length, take, drop, get_or}
use Rattle.bpg_format.specs.declared.answer.Written.{Written}
use Rattle.bpg_format.specs.Zero.{refused_written}
use Rattle.bpg_format.specs.Records.{read_file}
use Rattle.bpg_batch.specs.Batches.{files, sum, statuses_of, offsets_of, batch_answer, batch_statuses, batch_offsets, Complete}

abbrev pub answered : (count : ℕ) → Written
answered n = record { status = 0; offset = 0; count = n }

-- files laid end to end
unfoldable pub joined : List (List ℕ) → List ℕ
joined [] = []
joined (f ∷ fs) = f ++ joined fs

-- "in one buffer, end to end"
pub record EndToEnd : Type 0 where
  -- the files make up the buffer, and have these lengths
  pub whole : (lengths buffer : List ℕ) → sum lengths ≡ length buffer → (joined (files lengths buffer) ≡ buffer) × (map length (files lengths buffer) ≡ lengths)
  -- and no other files do
  pub no_other : (fs : List (List ℕ)) → files (map length fs) (joined fs) ≡ fs

-- the file with index k, by where it starts and how long it is
abbrev pub file_at : (lengths buffer : List ℕ) (k : ℕ) → List ℕ
file_at lengths buffer k = take (get_or lengths k 0) (drop (sum (take k lengths)) buffer)

-- "30, lengths do not add up to the buffer or the lists differ in length; given first."
pub record Refusals : Type 0 where
  pub exactly : (b ns ss os : List ℕ) → ((batch_answer b ns ss os).status ≡ 0) ↔ Complete b ns ss os
  -- there is no other refusal, and it leaves the lists as they were
  pub refused : (b ns ss os : List ℕ) → (batch_answer b ns ss os).status ≢ 0
      → (batch_answer b ns ss os ≡ refused_written 30 0) × (batch_statuses b ns ss os ≡ ss) × (batch_offsets b ns ss os ≡ os)
  -- "An empty list over an empty buffer is fine."
  pub empty : (batch_answer [] [] [] [] ≡ answered 0) × (batch_statuses [] [] [] [] ≡ []) × (batch_offsets [] [] [] [] ≡ [])

-- "give each file's refusal number (0 if accepted) and place, within that file, equal to reading each alone."
pub record EachAlone : Type 0 where
  pub success : (b ns ss os : List ℕ) → (batch_answer b ns ss os).status ≡ 0 → batch_answer b ns ss os ≡ answered (length ns)
  pub each : (b ns ss os : List ℕ) → (batch_answer b ns ss os).status ≡ 0 → (k : ℕ) → k < length ns
      → (get_or (batch_statuses b ns ss os) k 0 ≡ (read_file (file_at ns b k)).status) × (get_or (batch_offsets b ns ss os) k 0 ≡ (read_file (file_at ns b k)).offset)
  -- whatever the files are, and whatever the lists hold
  pub any : (fs : List (List ℕ)) (ss os : List ℕ) → length ss ≡ length fs → length os ≡ length fs
      → let b = joined fs in
      let ns = map length fs in
      (batch_answer b ns ss os ≡ answered (length fs)) × (batch_statuses b ns ss os ≡ statuses_of fs) × (batch_offsets b ns ss os ≡ offsets_of fs)
  -- "within that file", or at its end
  pub within : (f : List ℕ) → (read_file f).offset ≤ length f

-- "One bad file spoils no other."
pub record NoneSpoilt : Type 0 where
  -- two buffers of equal length that agree on the file with index k have the same answer for it, under the same lengths and lists
  pub agree : (b c ns ss os : List ℕ) (k : ℕ) → k < length ns → length b ≡ length c → file_at ns b k ≡ file_at ns c k
      → (get_or (batch_statuses b ns ss os) k 0 ≡ get_or (batch_statuses c ns ss os) k 0) × (get_or (batch_offsets b ns ss os) k 0 ≡ get_or (batch_offsets c ns ss os) k 0)
  -- with any file f between them, the answers of the others are those that they have without it
  pub between : (before after : List (List ℕ)) (f : List ℕ) (ss os : List ℕ)
      → let fs = before ++ (f ∷ after) in
      length ss ≡ length fs → length os ≡ length fs
      → (batch_statuses (joined fs) (map length fs) ss os ≡ statuses_of before ++ ((read_file f).status ∷ statuses_of after))
      × (batch_offsets (joined fs) (map length fs) ss os ≡ offsets_of before ++ ((read_file f).offset ∷ offsets_of after))
