-- The code of v is v + 1 in as many bits as it takes.
use Rattle.std.proofs.Common.{◌≡◌, ℕ, min, ◌+◌, ◌-◌, ◌*◌, ◌^◌, ◌≤◌, ◌<◌, [], length, refl, sym, ap, ◌∙◌, arith}
use Rattle.bpg_codec.specs.Bits.{bits}
use Rattle.bpg_codec.proofs.Lists.{either_way}
use Rattle.bpg_bits.specs.BitNumbers.{exp_golomb_bits, prefix_zeros}
use Rattle.bpg_bits.proofs.BitNumberLaws.{top, exp_golomb-size, exp_golomb-none, exp_golomb-one-field}
use Rattle.bpg_write_bits.specs.BitBuffer.{appended}
use Rattle.bpg_write_bits.proofs.BitBuffer.append_exp_golomb.Goals as goal

no_bits : (v : ℕ) → bits 0 v ≡ []
unfolding bits
no_bits v = refl

field : (v n w : ℕ) → n ≡ length (exp_golomb_bits v) → w ≡ v → bits (min n 63) (w + 1) ≡ exp_golomb_bits v
field v n w e s = rw s (either_way (2 ^ 32 - 1) v none some)
  where
    none : 2 ^ 32 - 1 ≤ v → bits (min n 63) (v + 1) ≡ exp_golomb_bits v
    none h = let z : min n 63 ≡ 0 = omega (arith, ap length (exp_golomb-none v h)) in rw (z, exp_golomb-none v h) (no_bits (v + 1))

    some : v < 2 ^ 32 - 1 → bits (min n 63) (v + 1) ≡ exp_golomb_bits v
    some h =
        let m : min n 63 ≡ 2 * prefix_zeros v + 1 = omega (arith, exp_golomb-size v h, (top v h).0.most) in
        rw m (sym (exp_golomb-one-field v h))

pub returns : goal.returns
returns c = c.append.ensures ∙ ap (appended c.args.self) (field _ _ _ c.size.ensures c.from.ensures)
