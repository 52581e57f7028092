use Rattle.std.proofs.lemmas.Result.{err_from_is_err_and}
use Rattle.bpg_write_plan.proofs.PlanLaws.{judged-out, record-known, longer, ready}
use Rattle.bpg_write_plan.proofs.plan.prepare.Goals as goal

pub returns-in_err-record : goal.returns-in_err-record
returns-in_err-record c =
    let p = err_from_is_err_and c.from_residual.result c.from_residual.ensures.1 in
    rw (p.1, p.2) (judged-out c.args.«record».now c.args.source.now _ c.in_err-record.ensures)

pub measure-layout-requires-clause-entry_count_bound : goal.measure-layout-requires-clause-entry_count_bound
measure-layout-requires-clause-entry_count_bound c = (record-known c.args.«record».now c.args.source.now c.in_ok-record.ensures).few

pub returns-then-layout-gt-MAX_FILE : goal.returns-then-layout-gt-MAX_FILE
returns-then-layout-gt-MAX_FILE c =
    longer c.args.«record».now c.args.source.now c.in_ok-record.ensures _ _ _ c.measure-layout.ensures
    c.alpha_bits-alpha.ensures.encoded c.color_bits-color.ensures.encoded c.if-layout-gt-MAX_FILE.true

pub returns : goal.returns
returns c =
    ready c.args.«record».now c.args.source.now c.in_ok-record.ensures _ _ _ c.measure-layout.ensures
    c.alpha_bits-alpha.ensures.encoded c.color_bits-color.ensures.encoded c.alpha_bits-alpha.ensures.len_bound c.color_bits-color.ensures.len_bound
    c.if-layout-gt-MAX_FILE.false
