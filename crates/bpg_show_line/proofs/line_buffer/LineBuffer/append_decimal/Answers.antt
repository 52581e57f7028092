use Rattle.std.proofs.Common.{◌≡◌, ℕ, suc, ◌+◌, ◌-◌, ◌/◌, ◌%◌, ◌≤◌, ◌<◌, List, ◌∷◌, ◌++◌, length, take, drop, refl, sym, ap, ◌∙◌, arith, append_assoc, length-drop}
use Rattle.std.proofs.Math.ListN.{set, length-set}
use Rattle.std.proofs.Math.Seq.{take_all, drop-cons, drop-set-lt, get_or-set_same, lt-length-set}
use Rattle.bpg_show_line.specs.Text.{decimal}
use Rattle.bpg_show_line.specs.LineBuffer.{appended}
use Rattle.bpg_show_line.proofs.DecimalLaws.{leading, leading-zero, leading-more, decimal-leading, length-leading, leading-most}
use Rattle.bpg_show_line.proofs.line_buffer.LineBuffer.append_decimal.Goals as goal

-- a store, and what stands from there on
drop-set : (l : List ℕ) (i a : ℕ) → i < length l → drop i (set l i a) ≡ a ∷ drop (suc i) l
drop-set l i a h = drop-cons (set l i a) i 0 (lt-length-set l i a h) ∙ rw (get_or-set_same l i a 0, drop-set-lt (suc i) l i a (omega arith))

-- a turn's store puts the last of the leading digits before those from `next` on
turn : (l : List ℕ) (next left : ℕ) → 0 < left → 0 < next → next ≤ length l
    → leading (left / 10) ++ drop (next - 1) (set l (next - 1) (48 + left % 10)) ≡ leading left ++ drop next l
turn l next left h k n =
    let e : suc (next - 1) ≡ next = omega arith in
    rw (drop-set l (next - 1) (48 + left % 10) (omega arith), e, leading-more left h, append_assoc)

-- at the end no leading digit is left
done : (l : List ℕ) (next left v : ℕ) → left ≤ 0 → length l ≡ 20 → leading left ++ drop next l ≡ decimal v → take (20 - next) (drop next l) ≡ decimal v
done l next left v h n e =
    let z : left ≡ 0 = omega arith in
    take_all (20 - next) (drop next l) (rw length-drop (omega arith)) ∙ rw (z, leading-zero) at e

pub loop-left-init : goal.loop-left-init
loop-left-init c =
    record { digits = sym (decimal-leading c.args.v); size = refl; room = leading-most 19 (c.args.v / 10) (omega arith); place = omega arith }

pub overflow_sub-next : goal.overflow_sub-next
overflow_sub-next c = omega (arith, length-leading c.loop-left.left c.loop-left-test.true)

pub loop-left-preserved : goal.loop-left-preserved
loop-left-preserved c =
    let l = c.loop-left in
    let n = length-leading l.left c.loop-left-test.true in
    record {
      digits = turn l.digits l.next l.left c.loop-left-test.true (omega arith) (omega arith) ∙ l.invariant.digits;
      size = length-set l.digits _ _ ∙ l.invariant.size;
      room = omega arith;
      place = omega arith;
    }

pub returns : goal.returns
returns c =
    let l = c.loop-left in
    c.append.ensures ∙ ap (appended _) (done l.digits l.next l.left _ c.loop-left-test.false l.invariant.size l.invariant.digits)
