-- `headers::read` meets its contract.
use Rattle.std.proofs.lemmas.Result.{err_from_is_err_and}
use Rattle.bpg_read_headers.proofs.BothHeaderLaws.{headers-chain}
use Rattle.bpg_read_headers.proofs.headers.read.Goals as goal

pub returns-in_err-first : goal.returns-in_err-first
returns-in_err-first c =
    let p = err_from_is_err_and c.from_residual.result c.from_residual.ensures.1 in
    rw (headers-chain, ← c.in_err-first.ensures, p.1, p.2)

pub returns-in_err-second : goal.returns-in_err-second
returns-in_err-second c =
    let p = err_from_is_err_and c.from_residual-in_err-second.result c.from_residual-in_err-second.ensures.1 in
    rw (headers-chain, ← c.in_ok-first.ensures, ← c.in_err-second.ensures, p.1, p.2)

pub returns : goal.returns
returns c = rw (headers-chain, ← c.in_ok-first.ensures, ← c.in_ok-second.ensures)
