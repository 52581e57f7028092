-- The cases of the line, and how long it is: every line fits the line buffer.
use mathlib.Core.Path.{◌≡◌}
use mathlib.Core.Bool.{Bool, true, false}
use Prim.Native.Nat.{ℕ, ◌+◌, ◌^◌, ◌≤◌, ◌<◌}
use native.Mathlib.Omega.{arith}
use lib.ListN.{length, length-append}
use mathlib.Core.List.{List}
use mir.Val.{Val}
use denote.Laws.{Is}
use borrow.Author.Tests.{eq-eqb, ne_eqb}
use Rattle.bpg_codec.proofs.Select.{select-true, select-false}
use Rattle.bpg_format.specs.contracts.record.Record as record-type
use Rattle.bpg_format.specs.declared.record.Record.{Record}
use Rattle.bpg_format.specs.declared.answer.Reading.{Reading}
use Rattle.bpg_show_line.specs.Text.{ascii}
use Rattle.bpg_show_line.specs.Line.{alpha_text, range_text, animation_text, accepted_line, refused_line, line_of}
use Rattle.bpg_show_line.specs.LineBuffer.{line_size}
use Rattle.bpg_show_line.proofs.DecimalLaws.{decimal-most}

-- ---- the line's two cases

pub line-accepted : (r : Reading) → r.status ≡ 0 → line_of r ≡ accepted_line r.«record»
line-accepted r e = select-true _ _ (eq-eqb _ _ e)

pub line_refused : (r : Reading) → (r.status ≡ 0 → ⊥) → line_of r ≡ refused_line r.status r.offset
line_refused r e = select-false _ _ (ne_eqb _ _ e)

-- ---- how long it is

alpha-most : (a b : Bool) → length (alpha_text a b) ≤ 20
unfolding ascii
alpha-most false false = omega arith
alpha-most true false = omega arith
alpha-most true true = omega arith
alpha-most false true = omega arith

range-most : (b : Bool) → length (range_text b) ≤ 14
unfolding ascii
range-most false = omega arith
range-most true = omega arith

animation-most : (b : Bool) → length (animation_text b) ≤ 9
unfolding ascii
animation-most false = omega arith
animation-most true = omega arith

-- the numbers that are printed are within their types
pub record Printable (r : Record) : Type 0 where
  pub width : r.picture_width < 2 ^ 32
  pub height : r.picture_height < 2 ^ 32
  pub format : r.pixel_format < 2 ^ 8
  pub depth : r.bit_depth_minus_8 < 2 ^ 8
  pub space : r.color_space < 2 ^ 8
  pub count : r.entry_count < 2 ^ 32
  pub size : r.«data».length < 2 ^ 32

-- which the fields of a record in the code are
pub printable : (r : Record) {vs : List Val} → Is record-type.the_row r vs → Printable r
printable r k = omega arith

pub length-accepted : (r : Record) → Printable r → length (accepted_line r) ≤ line_size
unfolding ascii
length-accepted r p =
    simp length-append
    (omega (
      arith,
      decimal-most 9 r.picture_width (omega (arith, p.width)),
      decimal-most 9 r.picture_height (omega (arith, p.height)),
      decimal-most 2 r.pixel_format (omega (arith, p.format)),
      decimal-most 2 (r.bit_depth_minus_8 + 8) (omega (arith, p.depth)),
      decimal-most 2 r.color_space (omega (arith, p.space)),
      alpha-most r.alpha1_flag r.alpha2_flag,
      range-most r.limited_range_flag,
      animation-most r.animation_flag,
      decimal-most 9 r.entry_count (omega (arith, p.count)),
      decimal-most 9 r.«data».length (omega (arith, p.size)),
    ))

pub length-refused : (s o : ℕ) → s < 2 ^ 8 → o < 2 ^ 64 → length (refused_line s o) ≤ line_size
unfolding ascii
length-refused s o h k =
    simp length-append (omega (arith, decimal-most 2 s (omega arith), decimal-most 19 o (omega arith)))
