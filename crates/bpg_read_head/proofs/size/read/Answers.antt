use Rattle.std.proofs.lemmas.Result.{err_from_is_err_and}
use Rattle.bpg_read_head.proofs.SizeLaws.{size-chain}
use Rattle.bpg_read_head.proofs.size.read.Goals as goal

pub returns-in_err-width : goal.returns-in_err-width
returns-in_err-width c =
    let p = err_from_is_err_and c.from_residual.result c.from_residual.ensures.1 in
    rw (size-chain, ← c.in_err-width.ensures, p.1, p.2)

pub returns-in_err-height : goal.returns-in_err-height
returns-in_err-height c =
    let p = err_from_is_err_and c.from_residual-in_err-height.result c.from_residual-in_err-height.ensures.1 in
    rw (size-chain, ← c.in_ok-width.ensures, ← c.in_err-height.ensures, p.1, p.2)

pub returns : goal.returns
returns c = rw (size-chain, ← c.in_ok-width.ensures, ← c.in_ok-height.ensures)
