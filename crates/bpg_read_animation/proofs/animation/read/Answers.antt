use Rattle.std.proofs.Common.{arith}
use Rattle.std.proofs.lemmas.Result.{err_from_is_err_and}
use Rattle.bpg_read_animation.proofs.AnimationLaws.{chain, count_limit, period_limit}
use Rattle.bpg_read_animation.proofs.animation.read.Goals as goal

pub returns-in_err-count : goal.returns-in_err-count
returns-in_err-count c =
    let p = err_from_is_err_and c.from_residual.result c.from_residual.ensures.1 in
    rw (chain, ← c.in_err-count.ensures, p.1, p.2)

pub returns-in_err-num : goal.returns-in_err-num
returns-in_err-num c =
    let p = err_from_is_err_and c.from_residual-in_err-num.result c.from_residual-in_err-num.ensures.1 in
    rw (chain, ← c.in_ok-count.ensures, ← c.in_err-num.ensures, p.1, p.2)

pub returns-in_err-den : goal.returns-in_err-den
returns-in_err-den c =
    let p = err_from_is_err_and c.from_residual-in_err-den.result c.from_residual-in_err-den.ensures.1 in
    rw (chain, ← c.in_ok-count.ensures, ← c.in_ok-num.ensures, ← c.in_err-den.ensures, p.1, p.2)

pub overflow_cast-result : goal.overflow_cast-result
overflow_cast-result c = omega (arith, count_limit _ _ c.in_ok-count.count c.in_ok-count.ensures)

pub overflow_cast-result-2 : goal.overflow_cast-result-2
overflow_cast-result-2 c = omega (arith, period_limit _ _ c.in_ok-num.num c.in_ok-num.ensures)

pub overflow_cast-result-3 : goal.overflow_cast-result-3
overflow_cast-result-3 c = omega (arith, period_limit _ _ c.in_ok-den.den c.in_ok-den.ensures)

pub returns : goal.returns
returns c = rw (chain, ← c.in_ok-count.ensures, ← c.in_ok-num.ensures, ← c.in_ok-den.ensures)
