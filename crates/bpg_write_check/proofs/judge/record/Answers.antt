use borrow.Author.Tests.{le-leb, lt-leb}
use Rattle.bpg_format.specs.Write.{check_record}
use Rattle.bpg_write_check.proofs.judge.record.Goals as goal

pub returns-then-record-gt-MAX_ENTRIES : goal.returns-then-record-gt-MAX_ENTRIES
unfolding check_record
returns-then-record-gt-MAX_ENTRIES c = rw (lt-leb _ _ c.if-record-gt-MAX_ENTRIES.true)

pub returns-then-not-all_in : goal.returns-then-not-all_in
unfolding check_record
returns-then-not-all_in c = rw (le-leb _ _ c.if-record-gt-MAX_ENTRIES.false, ← c.if-not-all_in.ensures)

pub returns-then-not-unused_zero : goal.returns-then-not-unused_zero
unfolding check_record
returns-then-not-unused_zero c = rw (le-leb _ _ c.if-record-gt-MAX_ENTRIES.false, ← c.if-not-all_in.ensures, ← c.if-not-unused_zero.ensures)

pub returns-then-not-all : goal.returns-then-not-all
unfolding check_record
returns-then-not-all c =
    rw (le-leb _ _ c.if-record-gt-MAX_ENTRIES.false, ← c.if-not-all_in.ensures, ← c.if-not-unused_zero.ensures, ← c.if-not-all.ensures c.args.source.now)

pub returns : goal.returns
unfolding check_record
returns c =
    rw (le-leb _ _ c.if-record-gt-MAX_ENTRIES.false, ← c.if-not-all_in.ensures, ← c.if-not-unused_zero.ensures, ← c.if-not-all.ensures c.args.source.now) c.check.ensures
