use Rattle.std.proofs.Common.{sym, ◌∙◌, arith}
use Rattle.bpg_import_list.proofs.ListLaws.{within_end, within-next}
use Rattle.bpg_import_list.proofs.check.within.Goals as goal

pub loop-k-preserved : goal.loop-k-preserved
loop-k-preserved c =
    let l = c.loop-k in
    let a = c.args in
    l.invariant ∙ within-next a.fields.now a.numbers.now l.k l.fit (omega arith) (omega arith)

pub returns : goal.returns
returns c =
    let l = c.loop-k in
    let a = c.args in
    sym (l.invariant ∙ within_end a.fields.now a.numbers.now l.k l.fit (omega arith))
