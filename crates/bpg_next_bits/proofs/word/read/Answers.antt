-- `word::read` meets its contract.
use Rattle.std.proofs.Common.{◌≡◌, ℕ, suc, ◌+◌, ◌-◌, ◌*◌, ◌%◌, ◌^◌, ◌≤◌, ◌<◌, List, length, get_or, drop, sym, ◌∙◌, arith, length-drop}
use lib.Seq.{get_or-drop}
use Rattle.bpg_next_bits.proofs.WordLaws.{first_bytes, no_bytes, fits, word-is, next-byte}
use Rattle.bpg_next_bits.proofs.word.read.Goals as goal

-- one more byte
module _ (region : List ℕ) (start next word byte : ℕ) (h : start ≤ next) (few : next - start < 8) (there : next < length region)
    (e : byte ≡ get_or region next 0) (small : byte < 256)
    (made : word ≡ first_bytes (drop start region) (next - start) * 2 ^ (64 - 8 * (next - start))) where
  inside : next - start < length (drop start region)
  inside = rw length-drop (omega arith)

  more : word + byte * 2 ^ (56 - 8 * (next - start)) % 2 ^ 64 ≡ first_bytes (drop start region) (suc (next - start)) * 2 ^ (56 - 8 * (next - start))
  more =
      let at : start + (next - start) ≡ next = omega arith in
      let b : byte ≡ get_or (drop start region) (next - start) 0 = e ∙ sym (get_or-drop start region (next - start) 0 ∙ rw at) in
      let f : 64 - 8 * (next - start) - 8 ≡ 56 - 8 * (next - start) = omega arith in
      rw f at (next-byte (drop start region) (next - start) (64 - 8 * (next - start)) byte word inside b small (omega arith) (omega arith) made)

  room : word + byte * 2 ^ (56 - 8 * (next - start)) % 2 ^ 64 < 2 ^ 64
  room = omega (arith, more, fits (drop start region) (suc (next - start)) (56 - 8 * (next - start)) (omega arith) inside)

  again : word + byte * 2 ^ (56 - 8 * (next - start)) % 2 ^ 64 ≡ first_bytes (drop start region) (next + 1 - start) * 2 ^ (64 - 8 * (next + 1 - start))
  again =
      let n : next + 1 - start ≡ suc (next - start) = omega arith in
      let f : 64 - 8 * suc (next - start) ≡ 56 - 8 * (next - start) = omega arith in
      rw (n, f) more

pub loop-next-init : goal.loop-next-init
loop-next-init c =
    let e : c.args.at.0 - c.args.at.0 ≡ 0 = omega arith in
    record { few = omega arith; there = omega arith; made = rw (e, no_bytes) }

pub overflow_add-word : goal.overflow_add-word
overflow_add-word c =
    let l = c.loop-next in
    let small = c.type_inv.region l.next in
    record { fits = room c.args.region.now c.args.at.0 l.next l.word _ (omega arith) (omega arith) (omega arith) c.from.ensures (omega arith) l.invariant.made }

pub loop-next-preserved : goal.loop-next-preserved
loop-next-preserved c =
    let l = c.loop-next in
    let small = c.type_inv.region l.next in
    record {
      few = omega arith;
      there = omega arith;
      made = again c.args.region.now c.args.at.0 l.next l.word _ (omega arith) (omega arith) (omega arith) c.from.ensures (omega arith) l.invariant.made;
    }

pub returns : goal.returns
returns c =
    let l = c.loop-next in
    let k = l.next - c.args.at.0 in
    word-is (drop c.args.at.0 c.args.region.now) (l.next - c.args.at.0) (64 - 8 * (l.next - c.args.at.0)) (omega arith) (rw length-drop l.invariant.there) l.word l.invariant.made
    (rw length-drop (λ h. omega arith))
