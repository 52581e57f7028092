-- Each of the numbers takes few bytes.
use Rattle.std.proofs.Common.{◌≡◌, ℕ, ◌+◌, ◌^◌, ◌≤◌, ◌<◌, length, arith}
use Rattle.bpg_ue7.specs.Ue7.{ue7_bytes}
use Rattle.bpg_ue7.proofs.Ue7Laws.{size-most}
use Rattle.bpg_canonical_record.proofs.loop_size.Goals as goal

sum : (a b d x y z : ℕ) → x < 2 ^ 64 → y < 2 ^ 64 → z < 2 ^ 64 → a ≡ length (ue7_bytes x) → b ≡ length (ue7_bytes y) → d ≡ length (ue7_bytes z)
    → a + b + d ≤ 30
sum a b d x y z h k l p q r = omega (arith, size-most x h, size-most y k, size-most z l)

pub overflow_add-result : goal.overflow_add-result
overflow_add-result c =
    omega (arith, sum _ _ _ _ _ _ c.from.type_inv c.from-2.type_inv c.from-3.type_inv c.size-count.ensures c.size-num.ensures c.size-den.ensures)

pub overflow_add-result-2 : goal.overflow_add-result-2
overflow_add-result-2 c =
    omega (arith, sum _ _ _ _ _ _ c.from.type_inv c.from-2.type_inv c.from-3.type_inv c.size-count.ensures c.size-num.ensures c.size-den.ensures)

pub overflow_cast-result : goal.overflow_cast-result
overflow_cast-result c =
    omega (arith, sum _ _ _ _ _ _ c.from.type_inv c.from-2.type_inv c.from-3.type_inv c.size-count.ensures c.size-num.ensures c.size-den.ensures)
