-- `header::read` meets its contract.
use Rattle.std.proofs.Common.{◌≡◌, ℕ, ◌+◌, ◌-◌, ◌≤◌, List, length, take, sym, ◌∙◌, arith}
use Rattle.std.proofs.lemmas.Result.{err_from_is_err_and}
use lib.Seq.{length-take-le}
use Rattle.bpg_ue7.proofs.Advances.{ue7-advances}
use Rattle.bpg_ue7.proofs.ReadAt.{value_read, refusal_read}
use Rattle.bpg_read_headers.proofs.HeaderLaws.{file-long, length-refused, length-inside, too_large, sized}
use Rattle.bpg_read_headers.proofs.header.read.Goals as goal

pub returns-then-file-gt-MAX_FILE : goal.returns-then-file-gt-MAX_FILE
returns-then-file-gt-MAX_FILE c = rw c.at.ensures (file-long _ _ _ c.if-file-gt-MAX_FILE.true)

pub returns-in_err-size : goal.returns-in_err-size
returns-in_err-size c =
    let p = err_from_is_err_and c.from_residual.result c.from_residual.ensures.1 in
    rw (p.1, p.2) (length-refused _ _ _ c.if-file-gt-MAX_FILE.false _ _ (refusal_read (ue7-advances 32) _ _ _ c.in_err-size.ensures))

pub overflow_sub-file : goal.overflow_sub-file
overflow_sub-file c = length-inside c.args.file.now c.args.depth c.args.at.0 c.if-file-gt-MAX_FILE.false _ _ (value_read (ue7-advances 32) _ _ c.in_ok-size.size c.in_ok-size.ensures)

pub returns-then-file-start : goal.returns-then-file-start
returns-then-file-start c =
    let size = value_read (ue7-advances 32) c.args.file.now c.args.at.0 c.in_ok-size.size c.in_ok-size.ensures in
    rw c.at-then-file-start.ensures
    (too_large c.args.file.now c.args.depth c.args.at.0 c.if-file-gt-MAX_FILE.false _ _ size
    (omega (arith, c.if-file-start.true, length-inside c.args.file.now c.args.depth c.args.at.0 c.if-file-gt-MAX_FILE.false _ _ size)))

-- the header fits the file
fits : (file : List ℕ) (start size : ℕ) → start ≤ length file → size ≤ length file - start → length (take (start + size) file) ≡ start + size
fits file start size h k = length-take-le (start + size) file (omega arith)

pub slice_bounds-with_size-end : goal.slice_bounds-with_size-end
slice_bounds-with_size-end c =
    let x = c.in_ok-size.size in
    let size = value_read (ue7-advances 32) c.args.file.now c.args.at.0 x c.in_ok-size.ensures in
    sym (fits c.args.file.now x.next.0 x.value (length-inside c.args.file.now c.args.depth c.args.at.0 c.if-file-gt-MAX_FILE.false _ _ size) (omega arith))

pub with_size-requires-clause-start_bound : goal.with_size-requires-clause-start_bound
with_size-requires-clause-start_bound c =
    let x = c.in_ok-size.size in
    let size = value_read (ue7-advances 32) c.args.file.now c.args.at.0 x c.in_ok-size.ensures in
    omega (arith, fits c.args.file.now x.next.0 x.value (length-inside c.args.file.now c.args.depth c.args.at.0 c.if-file-gt-MAX_FILE.false _ _ size) (omega arith))

pub returns : goal.returns
returns c =
    let x = c.in_ok-size.size in
    let size = value_read (ue7-advances 32) c.args.file.now c.args.at.0 x c.in_ok-size.ensures in
    let inside = length-inside c.args.file.now c.args.depth c.args.at.0 c.if-file-gt-MAX_FILE.false _ _ size in
    c.with_size.ensures
    ∙ sized c.args.file.now c.args.depth c.args.at.0 c.if-file-gt-MAX_FILE.false _ _ size (omega (arith, c.if-file-start.false, inside))
