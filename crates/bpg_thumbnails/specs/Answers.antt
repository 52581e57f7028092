-- What the inner functions are given, and what they answer.
use Rattle.std.specs.Prelude.{List, ◌≡◌, ℕ, ◌+◌, ◌≤◌, eqb, length}
use Rattle.bpg_codec.specs.Select.{select}
use Rattle.bpg_codec.specs.Outcome.{Outcome, ok}
use Rattle.bpg_format.specs.Limits.{max_file}
use Rattle.bpg_format.specs.declared.record.Entry.{Entry}
use Rattle.bpg_format.specs.declared.record.Record.{Record}
use Rattle.bpg_format.specs.Rules.{Accepted}
use Rattle.bpg_format.specs.Parts.{record_in, range_end}
use Rattle.bpg_thumbnails.specs.declared.levels.Size.{Size}
use Rattle.bpg_thumbnails.specs.Thumbnails.{size_of, check_thumbnail}

-- an entry without tag 4 is not looked into
unfoldable pub check_entry : (left : ℕ) (f : List ℕ) (start : ℕ) → Entry → Outcome (Unit {0})
check_entry left f start e = select (eqb e.tag 4) (check_thumbnail left f start e) (ok tt)

-- what the check of a file is given: an accepted file, which stands at `start` of the outer one, and its record
pub record FileAt (f : List ℕ) (r : Record) (start : ℕ) : Type 0 where
  pub accepted : Accepted f
  pub record_is : r ≡ record_in f
  pub inside : start + length f ≤ max_file

-- what the check of an entry is given: an entry whose payload lies in the file, and the size of the file's picture
pub record EntryAt (f : List ℕ) (e : Entry) (parent : Size) (start : ℕ) : Type 0 where
  pub size_is : parent ≡ size_of (record_in f)
  pub payload : range_end e.payload ≤ length f
  pub inside : start + length f ≤ max_file
