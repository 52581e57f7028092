-- A turn puts the last of the groups that are left before the bytes that stand.
use Rattle.std.proofs.Common.{◌≡◌, ℕ, zero, suc, ◌+◌, ◌-◌, ◌/◌, ◌%◌, ◌<◌, ◌≤◌, List, ◌∷◌, ◌++◌, length, take, drop, refl, sym, ap, ap₂, ◌∙◌, arith, append_assoc}
use Rattle.std.proofs.Math.ListN.{set, length-set, take-append-drop}
use Rattle.std.proofs.Math.Seq.{take-set-le, take-take, drop-cons, drop-set-lt, get_or-set_same, lt-length-set}
use Rattle.bpg_codec.specs.Buffer.{splice}
use Rattle.bpg_codec.proofs.Buffer.{stored, refused}
use Rattle.bpg_ue7.specs.Ue7.{ue7_bytes}
use Rattle.bpg_ue7.proofs.Ue7Laws.{high, high_zero, high-more, bytes_high, size-high, size-bytes, size-positive}
use Rattle.bpg_write_ue7.proofs.ue7.write.Goals as goal

-- a number without groups is 0, and no other
grouped : (w : ℕ) → 0 < length (high w) → 0 < w
grouped zero h = omega (arith, ap length high_zero)
grouped (suc w) h = omega arith

groupless : (w : ℕ) → length (high w) ≡ 0 → w ≡ 0
groupless zero h = refl
groupless (suc w) h = absurd (omega (arith, size-high (suc w) (omega arith)))

-- a store, and what stands from there on
drop-set : (l : List ℕ) (i a : ℕ) → i < length l → drop i (set l i a) ≡ a ∷ drop (suc i) l
drop-set l i a h = drop-cons (set l i a) i 0 (lt-length-set l i a h) ∙ rw (get_or-set_same l i a 0, drop-set-lt (suc i) l i a (omega arith))

turn : (out : List ℕ) (next left : ℕ) → 0 < left → 0 < next → next ≤ length out
    → high (left / 128) ++ drop (next - 1) (set out (next - 1) (128 + left % 128)) ≡ high left ++ drop next out
turn out next left h k l =
    let e : suc (next - 1) ≡ next = omega arith in
    rw (drop-set out (next - 1) (128 + left % 128) (omega arith), e, high-more left h, append_assoc)

untouched : (out out₀ : List ℕ) (next a : ℕ) → take next out ≡ take next out₀ → take (next - 1) (set out (next - 1) a) ≡ take (next - 1) out₀
untouched out out₀ next a e =
    take-set-le (next - 1) out (next - 1) a (omega arith) ∙ sym (take-take (next - 1) next out (omega arith))
    ∙ ap (take (next - 1)) e ∙ take-take (next - 1) next out₀ (omega arith)

-- at the end no group is left
done : (entry out : List ℕ) (at past v : ℕ) → at < past → past ≤ length entry → past ≡ at + length (ue7_bytes v)
    → high 0 ++ drop at out ≡ high (v / 128) ++ drop (past - 1) (set entry (past - 1) (v % 128))
    → take at out ≡ take at (set entry (past - 1) (v % 128)) → out ≡ splice entry at (ue7_bytes v)
done entry out at past v h k p g t =
    let n : suc (past - 1) ≡ past = omega arith in
    let d : drop (past - 1) (set entry (past - 1) (v % 128)) ≡ v % 128 ∷ drop past entry = rw n at (drop-set entry (past - 1) (v % 128) (omega arith)) in
    sym (take-append-drop at out)
    ∙ ap₂ (λ (a b : List ℕ). a ++ b) (t ∙ take-set-le at entry (past - 1) (v % 128) (omega arith))
    (sym (ap (λ (l : List ℕ). l ++ drop at out) high_zero) ∙ g ∙ rw (d, bytes_high v, append_assoc, ← bytes_high v, ← p))

pub returns-then-saturating_sub-count : goal.returns-then-saturating_sub-count
returns-then-saturating_sub-count c =
    let a = c.args in
    let r = refused a.out.now a.at.0 (ue7_bytes a.v) (omega (arith, ap (λ (v : ℕ). length (ue7_bytes v)) c.from.ensures)) in
    record { out_after = r.0; result_value = r.1 }

pub overflow_sub-last : goal.overflow_sub-last
overflow_sub-last c = omega (arith, size-positive c.from.result)

pub bounds-out-last : goal.bounds-out-last
bounds-out-last c = omega (arith, size-positive c.from.result)

pub loop-i-init : goal.loop-i-init
loop-i-init c =
    let s : c.size-count.result ≡ suc (length (high (c.args.v / 128))) = c.size-count.ensures ∙ ap (λ (v : ℕ). length (ue7_bytes v)) c.from.ensures ∙ size-bytes c.args.v in
    record { bytes = refl; before = refl; place = omega arith }

pub loop-i-preserved : goal.loop-i-preserved
loop-i-preserved c =
    let l = c.loop-i in
    let p = grouped l.left (omega arith) in
    let n = simp length-set at l.auto.out in
    record {
      bytes = turn l.out l.i l.left p (omega arith) (omega arith) ∙ l.invariant.bytes;
      before = untouched l.out _ l.i _ l.invariant.before;
      place = omega (arith, size-high l.left p);
    }

pub returns : goal.returns
returns c =
    let l = c.loop-i in
    let a = c.args in
    let n : c.size-count.result ≡ length (ue7_bytes a.v) = c.size-count.ensures ∙ ap (λ (v : ℕ). length (ue7_bytes v)) c.from.ensures in
    let z : l.left ≡ 0 = groupless l.left (omega arith) in
    let i : l.i ≡ a.at.0 = omega arith in
    let s = stored a.out.now a.at.0 (ue7_bytes a.v) (omega arith) in
    record {
      out_after = done a.out.now l.out a.at.0 (a.at.0 + c.size-count.result) a.v (omega (arith, size-positive a.v)) (omega arith) (omega arith)
          (rw (z, i) at l.invariant.bytes) (rw i at l.invariant.before) ∙ s.0;
      result_value = ap (λ (k : ℕ). a.at.0 + k) n ∙ s.1;
    }
