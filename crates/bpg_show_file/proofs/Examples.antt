-- For the bytes of file A `bpgshow` prints exactly document 01's line.
use mathlib.Core.Path.{◌≡◌, refl, ap, ◌∙◌}
use Rattle.bpg_codec.specs.Select.{select}
use Rattle.bpg_format.specs.Records.{read_file}
use Rattle.bpg_format.specs.Examples.{file_a}
use Rattle.bpg_format.proofs.Examples.{answers}
use Rattle.bpg_show_line.specs.Text.{ascii}
use Rattle.bpg_show_line.specs.Line.{line_of}
use Rattle.bpg_show_line.proofs.Examples.{lines}
use Rattle.bpg_show_file.specs.Summary.{summary_of}

a_read : summary_of file_a ≡ line_of (read_file file_a)
unfolding select
a_read = refl

pub shows-a : summary_of file_a ≡ ascii "size 8x542 format 1 depth 8 space 0 alpha none range full still ext 0 data 2\n"
shows-a = a_read ∙ ap line_of answers.a-reads ∙ lines.a-line
