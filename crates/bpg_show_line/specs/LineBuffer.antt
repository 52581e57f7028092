-- The line buffer: what appending text makes of it.
use Rattle.std.specs.Prelude.{List, ◌++◌, ℕ, ◌-◌, length, replicate}
use Rattle.bpg_codec.specs.Buffer.{written, written_end}
use Rattle.bpg_show_line.specs.declared.line_buffer.LineBuffer.{LineBuffer}

-- how many bytes it holds
abbrev pub line_size : ℕ
line_size = 160

-- the buffer that holds this text and nothing else
abbrev pub holding : List ℕ → LineBuffer
holding l = record { bytes = l ++ replicate (line_size - length l) 0; len = length l }

-- the text after what is there; text that does not fit leaves the buffer as it is
unfoldable pub appended : LineBuffer → List ℕ → LineBuffer
appended b l = record { bytes = written b.bytes b.len l; len = written_end b.bytes b.len l }
