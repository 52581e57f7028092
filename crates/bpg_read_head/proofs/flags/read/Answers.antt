use Rattle.std.proofs.Common.{arith}
use mathlib.Core.Path.{sym, ◌∙◌}
use Rattle.bpg_read_head.proofs.FlagLaws.{too_short, no-magic, no-format, no-depth, no-space, all-kept}
use Rattle.bpg_read_head.proofs.flags.read.Goals as goal

pub returns-then-file-lt-LEAST : goal.returns-then-file-lt-LEAST
returns-then-file-lt-LEAST c = rw c.at.ensures (too_short _ (omega arith))

pub returns-then-not-has_magic : goal.returns-then-not-has_magic
returns-then-not-has_magic c = rw c.at-then-not-has_magic.ensures (no-magic _ (omega arith) (sym c.has_magic.ensures ∙ c.if-not-has_magic.true))

pub returns-then-flags-gt5 : goal.returns-then-flags-gt5
returns-then-flags-gt5 c =
    rw c.at-then-flags-gt5.ensures
    (no-format _ (omega arith) (sym c.has_magic.ensures ∙ c.if-not-has_magic.false) c.from_bytes-flags.result c.from_bytes-flags.ensures (omega arith))

pub returns-then-flags-gt6 : goal.returns-then-flags-gt6
returns-then-flags-gt6 c =
    rw c.at-then-flags-gt6.ensures
    (no-depth _ (omega arith) (sym c.has_magic.ensures ∙ c.if-not-has_magic.false) c.from_bytes-flags.result c.from_bytes-flags.ensures (omega arith) (omega arith))

pub returns-then-not-color_space_allowed : goal.returns-then-not-color_space_allowed
returns-then-not-color_space_allowed c =
    rw c.at-then-not-color_space_allowed.ensures
    (no-space _ (omega arith) (sym c.has_magic.ensures ∙ c.if-not-has_magic.false) c.from_bytes-flags.result c.from_bytes-flags.ensures (omega arith) (omega arith)
    (sym c.color_space_allowed.ensures ∙ c.if-not-color_space_allowed.true))

pub returns : goal.returns
returns c =
    all-kept _ (omega arith) (sym c.has_magic.ensures ∙ c.if-not-has_magic.false) c.from_bytes-flags.result c.from_bytes-flags.ensures (omega arith) (omega arith)
    (sym c.color_space_allowed.ensures ∙ c.if-not-color_space_allowed.false)
