-- The parts of judging a record that functions of their own judge.
use Rattle.std.specs.Prelude.{Bool, not, ◌&&◌, ◌||◌, ℕ, leb, get_or}
use Rattle.bpg_codec.specs.Select.{select}
use Rattle.bpg_codec.specs.Outcome.{Outcome, ok, ◌>>=◌, guard}
use Rattle.bpg_ue7.specs.Ue7.{not_zero}
use Rattle.bpg_format.specs.declared.record.Record.{Record}
use Rattle.bpg_format.specs.Zero.{zero_header}
use Rattle.bpg_format.specs.Content.{Extension, AnimationControl, Content, has_alpha, bit_depth}
use Rattle.bpg_format.specs.Rules.{is_animation, has_animation}
use Rattle.bpg_format.specs.Tests.{color_space_allowed}
use Rattle.bpg_format.specs.Write.{check_animation, check_header}

-- what `check_entries` does with one entry
unfoldable pub check_entry : AnimationControl → (seen : Bool) → Extension → Outcome (Unit {0})
check_entry p seen e =
    guard (not (seen && is_animation e)) 13 0 >>= λ _.
    select (is_animation e) (check_animation p e.payload) (ok tt)

-- `check_content` before the entries
unfoldable pub check_picture : Content → Outcome (Unit {0})
check_picture c =
    guard (leb c.flags.pixel_format 5) 4 0 >>= λ _.
    guard (leb c.flags.bit_depth_minus8 6) 5 0 >>= λ _.
    guard (color_space_allowed c.flags) 6 0 >>= λ _.
    guard (not_zero c.width) 9 0 >>= λ _.
    guard (not_zero c.height) 9 0

-- the alpha header, where there is alpha
unfoldable pub check_alpha : (depth : ℕ) → Record → Outcome (Unit {0})
check_alpha depth r = select (r.alpha1_flag || r.alpha2_flag) (check_header depth (get_or r.headers 0 zero_header)) (ok tt)

-- `check_content` from the entries to the data
unfoldable pub check_headers : Content → Outcome (Unit {0})
check_headers c =
    guard (not c.flags.animation || has_animation c.extensions) 14 0 >>= λ _.
    select (has_alpha c.flags) (check_header (bit_depth c.flags) c.alpha_header) (ok tt) >>= λ _.
    check_header (bit_depth c.flags) c.color_header
