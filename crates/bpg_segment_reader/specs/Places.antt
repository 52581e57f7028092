-- What is found at a place of a run.
use Rattle.std.specs.Prelude.{◌≡◌, List, Bool, true, Option, Some, None, ℕ, zero, suc, ◌+◌, ◌-◌, ◌≤◌, eqb, length, take, drop}
use Rattle.bpg_codec.specs.Outcome.{Outcome, ok, error}
use Rattle.bpg_segment_rules.specs.Segments.{take_part}
use Rattle.bpg_segment_reader.specs.declared.segment.Part.{Part}

-- the bytes of a part
abbrev pub bytes_of : (run : List ℕ) → Part → List ℕ
bytes_of run r = take (r.end - r.start) (drop r.start run)

-- the part at `at` with this marker and prefix is this one
pub record PartAt (run : List ℕ) (at marker : ℕ) (prefix : List ℕ) (r : Part) : Type 0 where
  pub from : at ≤ r.start
  pub ordered : r.start ≤ r.end
  pub inside : r.end ≤ length run
  pub is : take_part marker prefix (drop at run) ≡ (bytes_of run r, drop r.end run)

abbrev pub full_size : (left size : ℕ) → Bool
full_size zero n = true
full_size (suc m) n = eqb n 65519

-- the length of what is read, after so many bytes before it
unfoldable pub judged_length : ℕ → Outcome (List ℕ) → Outcome ℕ
judged_length n (ok q) = ok (n + length q)
judged_length n (error s o) = error s o

-- a length, or refusal 36
abbrev pub judgement_of : Option ℕ → Outcome ℕ
judgement_of (Some n) = ok n
judgement_of None = error 36 0
