-- `exp_golomb::suffix` meets its contract: the sum fits, since z bits were read.
use Rattle.std.proofs.Common.{Option, Some, ℕ, min, ◌≡◌, ◌*◌, ◌%◌, ◌^◌, ◌<◌, Bool, List, drop, sym, ap, ◌∙◌, arith}
use lib.Pow.{pow_mono}
use Rattle.bpg_codec.specs.Outcome.{decoded, located}
use Rattle.bpg_codec.proofs.Outcome.{unlocate}
use Rattle.bpg_codec.proofs.Shifts.{one_shifted}
use Rattle.bpg_codec.proofs.Tokens.{all-bits}
use Rattle.bpg_bytes.specs.declared.position.BitPos.{BitPos}
use Rattle.bpg_bytes.specs.declared.position.Located.{Located}
use Rattle.bpg_bits.specs.BitNumbers.{region_bits, unsigned}
use Rattle.bpg_bits.specs.Answers.{bit_answer}
use Rattle.bpg_bits.proofs.BitNumberLaws.{unsigned-lawful}
use Rattle.bpg_bits.proofs.Items.{value-outcome}
use Rattle.bpg_bits.proofs.exp_golomb.suffix.Goals as goal

small : (z p : ℕ) (l : List Bool) (r : Option (Located ℕ BitPos)) → r ≡ bit_answer (located ((unsigned z).decode 0 p l))
    → (x : Located ℕ BitPos) → r ≡ Some x → x.value < 2 ^ z
small z p l r h x e =
    unlocate ((unsigned z).decode 0 p l) (sym (value-outcome r h x e)) λ s k.
    ((unsigned-lawful z).encodes 0 p l (all-bits l) (decoded x.value x.next.0 s) k).0

pub overflow_add-result : goal.overflow_add-result
overflow_add-result c =
    let z = c.args.z in
    let at = c.args.at.0 in
    let left = drop at (region_bits c.args.region.now) in
    let e : min z 32 ≡ z = omega arith in
    let read = c.read.ensures ∙ ap (λ (n : ℕ). bit_answer (located ((unsigned n).decode 0 at left))) e in
    let power : (1 * 2 ^ z) % 2 ^ 32 ≡ 2 ^ z = one_shifted z 32 c.requires in
    omega (arith, power, small z at left c.read.result read c.in_ok-low.low c.in_ok-low.was, pow_mono {i = z} {j = 31} (omega arith))
