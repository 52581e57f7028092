-- Document 01's lines ("The desk's examples"), by computation.
use mathlib.Core.Path.{◌≡◌, refl}
use Prim.Native.Nat.{◌^◌, ◌-◌}
use Rattle.bpg_codec.specs.Select.{select}
use Rattle.bpg_format.specs.Zero.{refused_reading}
use Rattle.bpg_format.specs.Examples.{reading_a, reading_c}
use Rattle.bpg_show_line.specs.Text.{ascii, digits, decimal}
use Rattle.bpg_show_line.specs.Line.{line_of}

pub record Lines : Type 0 where
  pub a-line : line_of reading_a ≡ ascii "size 8x542 format 1 depth 8 space 0 alpha none range full still ext 0 data 2\n"
  pub c-line : line_of reading_c ≡ ascii "size 8x542 format 1 depth 8 space 0 alpha none range full animated ext 1 data 2\n"
  pub refused-line : line_of (refused_reading 3 0) ≡ ascii "refused 3 at 0\n"
  pub smallest : decimal 0 ≡ ascii "0"
  pub largest : decimal (2 ^ 64 - 1) ≡ ascii "18446744073709551615"

pub lines : Lines
unfolding ascii digits decimal select
lines = record { a-line = refl; c-line = refl; refused-line = refl; smallest = refl; largest = refl }
