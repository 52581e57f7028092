use Rattle.std.proofs.lemmas.Result.{err_from_is_err_and}
use Rattle.bpg_read_head.proofs.HeadSteps.{head-chain}
use Rattle.bpg_read_head.proofs.head.read.Goals as goal

pub returns-in_err-flags : goal.returns-in_err-flags
returns-in_err-flags c =
    let p = err_from_is_err_and c.from_residual.result c.from_residual.ensures.1 in
    rw (head-chain, ← c.in_err-flags.ensures, p.1, p.2)

pub returns-in_err-size : goal.returns-in_err-size
returns-in_err-size c =
    let p = err_from_is_err_and c.from_residual-in_err-size.result c.from_residual-in_err-size.ensures.1 in
    rw (head-chain, ← c.in_ok-flags.ensures, ← c.in_err-size.ensures, p.1, p.2)

pub returns-in_err-data : goal.returns-in_err-data
returns-in_err-data c =
    let p = err_from_is_err_and c.from_residual-in_err-data.result c.from_residual-in_err-data.ensures.1 in
    rw (head-chain, ← c.in_ok-flags.ensures, ← c.in_ok-size.ensures, ← c.in_err-data.ensures, p.1, p.2)

pub returns-in_err-extension : goal.returns-in_err-extension
returns-in_err-extension c =
    let p = err_from_is_err_and c.from_residual-in_err-extension.result c.from_residual-in_err-extension.ensures.1 in
    rw (head-chain, ← c.in_ok-flags.ensures, ← c.in_ok-size.ensures, ← c.in_ok-data.ensures, ← c.in_err-extension.ensures, p.1, p.2)

pub returns : goal.returns
returns c = rw (head-chain, ← c.in_ok-flags.ensures, ← c.in_ok-size.ensures, ← c.in_ok-data.ensures, ← c.in_ok-extension.ensures)
