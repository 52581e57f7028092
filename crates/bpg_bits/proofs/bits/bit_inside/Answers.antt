-- `bits::bit_inside` meets its contract.
use Rattle.std.proofs.Common.{◌≡◌, ℕ, ◌-◌, ◌*◌, ◌/◌, ◌%◌, ◌^◌, ◌<◌, false, List, length, get_or, arith}
use Rattle.bpg_codec.specs.Bits.{bit, unpack}
use Rattle.bpg_codec.proofs.Bits.{bit-of-number, get_d-unpack}
use Rattle.bpg_bits.proofs.bits.bit_inside.Goals as goal

here : (l : List ℕ) (k j b : ℕ) → k < 8 * length l → j ≡ k / 8 → b ≡ get_or l j 0 → b / 2 ^ (7 - k % 8) % 2 ≡ bit (get_or (unpack l) k false)
here l k j b h i e = rw (e, i, get_d-unpack l k h, bit-of-number (get_or l (k / 8) 0 / 2 ^ (7 - k % 8) % 2) (omega arith))

pub returns : goal.returns
returns c = here _ _ _ _ (omega arith) c.byte_of-byte.ensures c.from.ensures
