-- Where the extension block of a file lies (document 01, "Order of the file", item 4).
use Rattle.std.specs.Prelude.{List, ℕ, ◌+◌, length}
use Rattle.bpg_codec.specs.Outcome.{Outcome, ok, error}
use Rattle.bpg_bytes.specs.Positions.{byte_pos}
use Rattle.bpg_format.specs.Content.{Content}
use Rattle.bpg_format.specs.Syntax.{block_bytes}
use Rattle.bpg_format.specs.Read.{read_content}
use Rattle.bpg_format.specs.Records.{block_start}
use Rattle.bpg_parts.specs.declared.bounds.BlockBounds.{BlockBounds}

abbrev pub bounds : (start end : ℕ) → BlockBounds
bounds start end = record { start = byte_pos start; end = byte_pos end }

-- from the first entry to after the last; a refused file has none
abbrev pub bounds_of : Outcome Content → BlockBounds
bounds_of (ok c) = bounds (block_start c) (block_start c + length (block_bytes c.extensions))
bounds_of (error s o) = bounds 0 0

unfoldable pub block_bounds : List ℕ → BlockBounds
block_bounds f = bounds_of (read_content f)
