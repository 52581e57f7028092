-- What the call answers.
use Rattle.std.specs.Prelude.{List, ℕ}
use Rattle.bpg_codec.specs.Outcome.{Outcome, ok, error}
use Rattle.bpg_thumbnails.specs.declared.answer.Checked.{Checked}
use Rattle.bpg_thumbnails.specs.Thumbnails.{check_file}

abbrev pub passed : Checked
passed = record { status = 0; offset = 0 }

abbrev pub refused : (status offset : ℕ) → Checked
refused s o = record { status = s; offset = o }

abbrev pub checked_of : Outcome (Unit {0}) → Checked
checked_of (ok _) = passed
checked_of (error s o) = refused s o

unfoldable pub check_thumbnails : List ℕ → Checked
check_thumbnails f = checked_of (check_file f)
