-- House rules of document 01: at most 64 entries (request 11/13), at most 16,777,216 bytes a file.
use Rattle.std.specs.Prelude.{ℕ}

abbrev pub max_entries : ℕ
max_entries = 64

abbrev pub max_file : ℕ
max_file = 16777216
