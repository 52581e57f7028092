use Rattle.std.proofs.Common.{sym, ◌∙◌, arith}
use Rattle.bpg_import_list.proofs.ListLaws.{words-end, words-next}
use Rattle.bpg_import_list.proofs.check.words.Goals as goal

pub loop-number-preserved : goal.loop-number-preserved
loop-number-preserved c =
    let l = c.loop-number in
    l.invariant ∙ words-next c.args.numbers.now l.number-index l.fit (omega arith)

pub returns : goal.returns
returns c =
    let l = c.loop-number in
    sym (l.invariant ∙ words-end c.args.numbers.now l.number-index l.fit (omega arith))
