use Rattle.std.proofs.Common.{eq-eqb, ne_eqb, arith}
use Rattle.std.proofs.lemmas.Result.{err_from_is_err_and}
use Rattle.bpg_ue7.proofs.ReadAt.{guarded_at}
use Rattle.bpg_ue7.proofs.ue7.read_nonzero.Goals as goal

pub returns-in_err-number : goal.returns-in_err-number
returns-in_err-number c =
    let p = err_from_is_err_and c.from_residual.result c.from_residual.ensures.1 in
    rw (guarded_at, ← c.in_err-number.ensures, p.1, p.2)

pub returns-then-number-eq0 : goal.returns-then-number-eq0
returns-then-number-eq0 c = rw (guarded_at, ← c.in_ok-number.ensures, eq-eqb c.in_ok-number.number.value 0 (omega arith), c.at.ensures)

pub returns : goal.returns
returns c = rw (guarded_at, ← c.in_ok-number.ensures, ne_eqb c.in_ok-number.number.value 0 (omega arith))
