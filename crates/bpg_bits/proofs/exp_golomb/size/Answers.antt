-- `exp_golomb::size` meets its contract.
use Rattle.std.proofs.Common.{length, sym, ap, arith}
use Rattle.bpg_bits.proofs.BitNumberLaws.{exp_golomb-size, exp_golomb-none}
use Rattle.bpg_bits.proofs.exp_golomb.size.Goals as goal

pub returns-then-v-eq4294967295 : goal.returns-then-v-eq4294967295
returns-then-v-eq4294967295 c = sym (ap length (exp_golomb-none c.args.v (omega arith)))

pub returns : goal.returns
returns c = sym (exp_golomb-size c.args.v (omega arith))
