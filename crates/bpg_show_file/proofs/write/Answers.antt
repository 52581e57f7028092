use Rattle.bpg_show_file.proofs.SummaryLaws.{summary-long, summary-read}
use Rattle.bpg_show_file.proofs.write.Goals as goal

pub returns-then-file-gt-SUMMARY_LIMIT : goal.returns-then-file-gt-SUMMARY_LIMIT
returns-then-file-gt-SUMMARY_LIMIT c =
    rw (summary-long c.args.file.now c.if-file-gt-SUMMARY_LIMIT.true) (rw c.number.ensures at c.write_refused.ensures)

pub returns : goal.returns
returns c = rw (summary-read c.args.file.now c.if-file-gt-SUMMARY_LIMIT.false, ← c.read.ensures.value) c.write.ensures
