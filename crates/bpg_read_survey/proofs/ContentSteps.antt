-- Reading a file that is not too long, by what its head is read as.
use mathlib.Core.Path.{◌≡◌}
use mathlib.Core.List.{List}
use Prim.Native.Nat.{ℕ, ◌≤◌}
use lib.ListN.{length, drop}
use borrow.Author.Tests.{le-leb}
use Rattle.bpg_codec.specs.Outcome.{ok, error}
use Rattle.bpg_format.specs.Limits.{max_file}
use Rattle.bpg_format.specs.Read.{Head, read_head, read_body, read_content}

pub content-error : (f : List ℕ) → length f ≤ max_file → (s o : ℕ) → read_head f ≡ error s o → read_content f ≡ error s o
unfolding read_content
content-error f short s o e = rw (le-leb (length f) max_file short, e)

pub content-body : (f : List ℕ) → length f ≤ max_file → (h : Head) → read_head f ≡ ok h → read_content f ≡ read_body h (drop h.end f)
unfolding read_content
content-body f short h e = rw (le-leb (length f) max_file short, e)
