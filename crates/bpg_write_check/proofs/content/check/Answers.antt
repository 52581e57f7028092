use Rattle.std.proofs.lemmas.Result.{err_from_is_err_and}
use Rattle.bpg_write_check.proofs.ContentLaws.{in_parts, depth-fits}
use Rattle.bpg_write_check.proofs.EntryLaws.{payloads-held, data-held}
use Rattle.bpg_write_check.proofs.content.check.Goals as goal

pub returns-in_err-check_picture : goal.returns-in_err-check_picture
returns-in_err-check_picture c =
    let p = err_from_is_err_and c.from_residual.result c.from_residual.ensures.1 in
    rw (in_parts, ← c.in_err-check_picture.ensures c.args.source.now, p.1, p.2)

pub check-requires : goal.check-requires
check-requires c = payloads-held _ _ c.requires

pub returns-in_err-check : goal.returns-in_err-check
returns-in_err-check c =
    let p = err_from_is_err_and c.from_residual-in_err-check.result c.from_residual-in_err-check.ensures.1 in
    rw (in_parts, ← c.in_ok-check_picture.ensures c.args.source.now, ← c.in_err-check.ensures, p.1, p.2)

pub check_headers-requires : goal.check_headers-requires
check_headers-requires c = depth-fits _ _ (c.in_ok-check_picture.ensures c.args.source.now)

pub returns-in_err-check_headers : goal.returns-in_err-check_headers
returns-in_err-check_headers c =
    let p = err_from_is_err_and c.from_residual-in_err-check_headers.result c.from_residual-in_err-check_headers.ensures.1 in
    rw (in_parts, ← c.in_ok-check_picture.ensures c.args.source.now, ← c.in_ok-check.ensures, ← c.in_err-check_headers.ensures c.args.source.now, p.1, p.2)

pub check_data-requires : goal.check_data-requires
check_data-requires c = data-held _ _ c.requires

pub returns : goal.returns
returns c =
    rw (in_parts, ← c.in_ok-check_picture.ensures c.args.source.now, ← c.in_ok-check.ensures, ← c.in_ok-check_headers.ensures c.args.source.now) c.check_data.ensures
