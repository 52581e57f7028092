-- As many bytes as the bits take, of eight.
use Rattle.std.proofs.Common.{◌≡◌, ℕ, min, ◌+◌, ◌-◌, ◌/◌, List, ◌++◌, take, ◌∙◌, arith}
use Rattle.std.specs.Int.{w64, to_be_bytes}
use Rattle.bpg_codec.specs.Bits.{bits, zeros}
use Rattle.bpg_codec.proofs.Bits.{length-bits}
use Rattle.bpg_write_bits.specs.declared.BitBuffer.{BitBuffer}
use Rattle.bpg_write_bits.specs.BitBuffer.{buffer_bytes}
use Rattle.bpg_write_bits.proofs.BitBufferLaws.{be-bytes, first-bytes}
use Rattle.bpg_write_bits.proofs.BitBuffer.write.Goals as goal

bytes-are : (b : BitBuffer) (n v k : ℕ) (l : List ℕ) → n ≡ min b.len.0 64 → bits 64 v ≡ bits n b.bits ++ zeros (64 - n) → l ≡ to_be_bytes w64 v → k ≡ (n + 7) / 8
    → take k l ≡ buffer_bytes b
bytes-are b n v k l e s f g =
    let t = first-bytes (bits n b.bits) v (rw length-bits (omega arith)) (rw length-bits s) in
    rw (g, f ∙ be-bytes v, ← e) (rw length-bits at t)

pub returns : goal.returns
returns c =
    let w = c.write.ensures in
    let k : c.div_ceil.result ≡ (c.min-count.result + 7) / 8 = omega arith in
    let e = bytes-are c.args.self c.min-count.result c.left_aligned.result c.div_ceil.result c.to_be_bytes-bytes.result c.min-count.ensures c.left_aligned.ensures c.to_be_bytes-bytes.ensures k in
    record { out_after = rw e at w.out_after; result_value = rw e at w.result_value }
