-- `trailing::is_padding` meets its contract.
use Rattle.std.proofs.Common.{◌≡◌, ℕ, ◌-◌, ◌*◌, ◌%◌, ◌^◌, get_or, ap, arith}
use Rattle.bpg_codec.proofs.Shifts.{one_shifted}
use Rattle.bpg_bits.specs.BitNumbers.{region_bits}
use Rattle.bpg_bits.proofs.BitNumberLaws.{region-within}
use Rattle.bpg_read_headers.proofs.PaddingLaws.{none_left, many-left, decided}
use Rattle.bpg_read_headers.proofs.trailing.is_padding.Goals as goal

pub returns-then-end-start : goal.returns-then-end-start
returns-then-end-start c = none_left (region_bits c.args.region.now) c.args.at.0 (omega (arith, c.if-end-start.true))

pub returns-then-left-ge8 : goal.returns-then-left-ge8
returns-then-left-ge8 c = many-left (region_bits c.args.region.now) c.args.at.0 (omega (arith, c.if-left-ge8.true))

pub bounds-region-byte : goal.bounds-region-byte
bounds-region-byte c = omega (arith, c.byte_of-byte.ensures, region-within c.args.region.now)

pub returns : goal.returns
returns c =
    let l = c.args.region.now in
    let left : ℕ = c.count-end.result - c.args.at.0 in
    let shifted : (1 * 2 ^ (c.count-end.result - c.args.at.0)) % 2 ^ 8 ≡ 2 ^ (c.count-end.result - c.args.at.0) = one_shifted left 8 (omega arith) in
    rw shifted (decided l c.args.at.0 left _ (omega arith) (omega arith) (omega arith) (ap (λ (k : ℕ). get_or l k 0) c.byte_of-byte.ensures))
