-- What `bpgshow` prints for a file (document 01, "The desk's examples").
use Rattle.std.specs.Prelude.{List, ℕ, ltb, length}
use Rattle.bpg_codec.specs.Select.{select}
use Rattle.bpg_format.specs.Records.{read_file}
use Rattle.bpg_show_line.specs.Line.{refused_line, line_of}

-- `bpgshow` reads at most this many bytes
abbrev pub summary_limit : ℕ
summary_limit = 65536

-- what `bpgshow` prints for the bytes of a file: longer ones are refusal 1 at 0
abbrev pub summary_of : List ℕ → List ℕ
summary_of f = select (ltb summary_limit (length f)) (refused_line 1 0) (line_of (read_file f))
