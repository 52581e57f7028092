-- The hourly batch (request 5/13): "Take the buffer, a list of 32-bit lengths and two lists for answers, and give each file's refusal number
-- (0 if accepted) and place, within that file, equal to reading each alone."
use Rattle.std.specs.Prelude.{◌≡◌, List, [], ◌∷◌, map, ℕ, ◌+◌, eqb, length, take, drop}
use Rattle.bpg_codec.specs.Outcome.{Outcome, ok, error, ◌>>=◌, guard}
use Rattle.bpg_format.specs.declared.answer.Written.{Written}
use Rattle.bpg_format.specs.Zero.{refused_written}
use Rattle.bpg_format.specs.Records.{read_file}

-- "files arrive in one buffer, end to end": those that the lengths cut out of it
unfoldable pub files : (lengths buffer : List ℕ) → List (List ℕ)
files [] buffer = []
files (n ∷ ns) buffer = take n buffer ∷ files ns (drop n buffer)

unfoldable pub sum : List ℕ → ℕ
sum [] = 0
sum (n ∷ ns) = n + sum ns

-- "each file's refusal number (0 if accepted)"
abbrev pub statuses_of : List (List ℕ) → List ℕ
statuses_of fs = map (λ f. (read_file f).status) fs

-- "and place, within that file"
abbrev pub offsets_of : List (List ℕ) → List ℕ
offsets_of fs = map (λ f. (read_file f).offset) fs

-- the call's answer
abbrev pub answer_for : Outcome (List (List ℕ)) → Written
answer_for (ok fs) = record { status = 0; offset = 0; count = length fs }
answer_for (error s o) = refused_written s o

-- what a list holds then: the answers, or after a refusal what it held
abbrev pub list_after : (List (List ℕ) → List ℕ) → Outcome (List (List ℕ)) → List ℕ → List ℕ
list_after answers (ok fs) list = answers fs
list_after answers (error s o) list = list

module _ (buffer lengths statuses offsets : List ℕ) where
  -- the files, or "30, lengths do not add up to the buffer or the lists differ in length; given first"
  unfoldable pub batch_outcome : Outcome (List (List ℕ))
  batch_outcome =
      guard (eqb (length statuses) (length lengths)) 30 0 >>= λ _.
      guard (eqb (length offsets) (length lengths)) 30 0 >>= λ _.
      guard (eqb (sum lengths) (length buffer)) 30 0 >>= λ _.
      ok (files lengths buffer)

  unfoldable pub batch_answer : Written
  batch_answer = answer_for batch_outcome

  unfoldable pub batch_statuses : List ℕ
  batch_statuses = list_after statuses_of batch_outcome statuses

  unfoldable pub batch_offsets : List ℕ
  batch_offsets = list_after offsets_of batch_outcome offsets

  -- the batch is not refused
  pub record Complete : Type 0 where
    pub as-many-statuses : length statuses ≡ length lengths
    pub as-many-offsets : length offsets ≡ length lengths
    pub adds-up : sum lengths ≡ length buffer
