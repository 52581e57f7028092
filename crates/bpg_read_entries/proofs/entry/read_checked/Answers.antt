use Rattle.std.proofs.Common.{arith}
use Rattle.bpg_read_entries.proofs.CheckedEntry.{too_long, in-region, past_end}
use Rattle.bpg_read_entries.proofs.entry.read_checked.Goals as goal

pub returns-then-region-gt-MAX_FILE : goal.returns-then-region-gt-MAX_FILE
returns-then-region-gt-MAX_FILE c = rw (too_long _ c.args.at.0 c.if-region-gt-MAX_FILE.true, c.at.ensures)

pub returns-then-region-at : goal.returns-then-region-at
returns-then-region-at c =
    rw (past_end _ c.args.at.0 c.if-region-gt-MAX_FILE.false (omega (arith, c.if-region-at.true)), c.at-then-region-at.ensures)

pub returns : goal.returns
returns c = rw (in-region _ c.args.at.0 c.if-region-gt-MAX_FILE.false, c.read.ensures)
