-- `bits::count` meets its contract: eight bits a byte.
use Rattle.std.proofs.Common.{take, ◌^◌, arith, length-take}
use Rattle.bpg_codec.proofs.Bits.{length-unpack}
use Rattle.bpg_bits.proofs.bits.count.Goals as goal

pub returns : goal.returns
returns c =
    let l = c.args.region.now in
    omega (arith, length-unpack (take (2 ^ 60) l), length-take (2 ^ 60) l)
