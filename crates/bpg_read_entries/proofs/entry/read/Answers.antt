use Rattle.std.proofs.Common.{arith}
use Rattle.std.proofs.lemmas.Result.{err_from_is_err_and}
use borrow.Author.Tests.{le-leb, lt-leb}
use Rattle.bpg_read_entries.proofs.EntryLaws.{start-chain, start_in_region}
use Rattle.bpg_read_entries.proofs.entry.read.Goals as goal

pub returns-in_err-tag : goal.returns-in_err-tag
returns-in_err-tag c =
    let p = err_from_is_err_and c.from_residual.result c.from_residual.ensures.1 in
    rw (start-chain, ← c.in_err-tag.ensures, p.1, p.2)

pub returns-in_err-size : goal.returns-in_err-size
returns-in_err-size c =
    let p = err_from_is_err_and c.from_residual-in_err-size.result c.from_residual-in_err-size.ensures.1 in
    rw (start-chain, ← c.in_ok-tag.ensures, ← c.in_err-size.ensures, p.1, p.2)

pub overflow_sub-region : goal.overflow_sub-region
overflow_sub-region c = start_in_region _ _ c.in_ok-tag.tag c.in_ok-size.size c.requires.at_bound c.in_ok-tag.ensures c.in_ok-size.ensures

pub returns-then-region-start : goal.returns-then-region-start
returns-then-region-start c =
    rw (start-chain, ← c.in_ok-tag.ensures, ← c.in_ok-size.ensures, lt-leb _ _ c.if-region-start.true, c.at.ensures)

pub overflow_cast-result : goal.overflow_cast-result
overflow_cast-result c =
    omega (arith, c.requires, start_in_region _ _ c.in_ok-tag.tag c.in_ok-size.size c.requires.at_bound c.in_ok-tag.ensures c.in_ok-size.ensures)

pub returns : goal.returns
returns c = rw (start-chain, ← c.in_ok-tag.ensures, ← c.in_ok-size.ensures, le-leb _ _ c.if-region-start.false)
