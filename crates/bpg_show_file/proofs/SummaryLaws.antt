-- The cases of the summary.
use mathlib.Core.Path.{◌≡◌}
use mathlib.Core.List.{List}
use Prim.Native.Nat.{ℕ, ◌≤◌, ◌<◌}
use lib.ListN.{length}
use borrow.Author.Tests.{lt-ltb, le-ltb}
use Rattle.bpg_codec.proofs.Select.{select-true, select-false}
use Rattle.bpg_format.specs.Records.{read_file}
use Rattle.bpg_show_line.specs.Line.{refused_line, line_of}
use Rattle.bpg_show_file.specs.Summary.{summary_limit, summary_of}

pub summary-long : (f : List ℕ) → summary_limit < length f → summary_of f ≡ refused_line 1 0
summary-long f h = select-true _ _ (lt-ltb _ _ h)

pub summary-read : (f : List ℕ) → length f ≤ summary_limit → summary_of f ≡ line_of (read_file f)
summary-read f h = select-false _ _ (le-ltb _ _ h)
