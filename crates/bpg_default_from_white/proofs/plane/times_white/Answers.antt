-- The two shifts are the division, and no step is above 2^32.
use Rattle.std.proofs.Common.{◌≤◌, ◌+◌, ◌*◌, ◌/◌, ◌^◌, arith}
use Rattle.bpg_default_from_white.proofs.Shifts.{sum-high, twice-high, shifts, white-high}
use Rattle.bpg_default_from_white.proofs.plane.times_white.Goals as goal

pub overflow_add-x : goal.overflow_add-x
overflow_add-x c =
    let h : c.args.r * c.args.w + c.args.half ≤ 16383 * 16383 + 8191 = search sum-high in
    rw (c.from.ensures, c.from-2.ensures) (omega arith)

pub overflow_add-result : goal.overflow_add-result
overflow_add-result c =
    let h : c.args.r * c.args.w + c.args.half + (c.args.r * c.args.w + c.args.half) / 2 ^ c.args.depth ≤ 2 * (16383 * 16383 + 8191) = search twice-high in
    rw (c.from.ensures, c.from-2.ensures) (omega arith)

pub overflow_add-result-2 : goal.overflow_add-result-2
overflow_add-result-2 c =
    let h : c.args.r * c.args.w + c.args.half + (c.args.r * c.args.w + c.args.half) / 2 ^ c.args.depth ≤ 2 * (16383 * 16383 + 8191) = search twice-high in
    rw (c.from.ensures, c.from-2.ensures) (omega arith)

pub overflow_cast-result-3 : goal.overflow_cast-result-3
overflow_cast-result-3 c =
    let a = c.args in
    let p = c.requires in
    rw (c.from.ensures, c.from-2.ensures)
    (omega (arith, shifts a.depth a.r a.w a.half p.0 p.1 p.2 p.3 p.4, white-high a.depth a.r a.w a.half p.0 p.1 p.2 p.3 p.4))

pub returns : goal.returns
returns c = rw (c.from.ensures, c.from-2.ensures) (search shifts)
