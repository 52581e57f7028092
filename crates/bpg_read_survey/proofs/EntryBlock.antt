-- The extension block of a file, as a region that ends with it.
use mathlib.Core.Path.{◌≡◌}
use mathlib.Core.List.{List}
use Prim.Native.Nat.{ℕ, ◌-◌, ◌≤◌, ◌<◌}
use native.Mathlib.Omega.{arith}
use lib.ListN.{length, take, drop, length-drop}
use lib.Seq.{length-take-le}
use borrow.Author.Tests.{le-leb, lt-leb}
use mathlib.Core.List.{[]}
use Rattle.bpg_codec.specs.Outcome.{ok, error}
use Rattle.bpg_codec.proofs.Lists.{take-drop}
use Rattle.bpg_format.specs.Limits.{max_file}
use Rattle.bpg_format.specs.Read.{Head, animation_of, read_entries, read_block}
use Rattle.bpg_read_entries.specs.Blocks.{block_of, block_answer, entries_in}
use Rattle.bpg_read_survey.specs.Bodies.{HeadRead, headers_start}

module _ {file : List ℕ} {h : Head} (k : HeadRead file h) where
  abbrev after : List ℕ
  after = drop h.end file

  pub block-too-large : length file - h.end < h.extension_length → error 2 h.extension_length_at ≡ block_answer (read_block h after)
  unfolding read_block
  block-too-large n = rw (lt-leb h.extension_length (length after) (omega (arith, length-drop h.end file)))

  pub block-empty : h.extension_length ≡ 0 → ok (block_of []) ≡ block_answer (read_block h after)
  unfolding read_block read_entries animation_of
  block-empty e = rw (e, le-leb 0 (length after) (omega arith))

  pub block-region : h.extension_length ≤ length file - h.end
      → block_answer (entries_in (take (headers_start h) file) h.end) ≡ block_answer (read_block h after)
  unfolding entries_in read_block
  block-region n =
      let ends : length (take (headers_start h) file) ≡ headers_start h = length-take-le (headers_start h) file (omega arith) in
      rw (
        le-leb (length (take (headers_start h) file)) max_file (omega arith),
        le-leb h.extension_length (length after) (omega (arith, length-drop h.end file)),
        take-drop h.extension_length h.end file,
      )
