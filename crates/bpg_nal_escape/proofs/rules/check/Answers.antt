use Rattle.std.proofs.Common.{◌≡◌, sym, ap, ◌∙◌, ℕ, List, length, Some, None, true, false, arith}
use Rattle.bpg_codec.proofs.Select.{select-true, select-false}
use Rattle.bpg_nal_emulation.specs.Emulation.{unescape, keeps_rules}
use Rattle.bpg_nal_emulation.proofs.OffsetLaws.{room, keeps-last, keeps-not-mark, keeps_on, keeps-bad, un-count-last, un-count-on}
use Rattle.bpg_nal_escape.specs.Checks.{check_of}
use Rattle.bpg_nal_escape.proofs.rules.check.Goals as goal
use Rattle.bpg_nal_escape.proofs.rules.check.Goals.{then-unit-at-ne3-via-then-unit-at-ne3, then-unit-at-ne3-via-else-unit-at-ne3+then-byte_at-gt3}

module _ (u : List ℕ) where
  kept : (n : ℕ) → keeps_rules u ≡ true → n ≡ length (unescape u) → Some n ≡ check_of u
  kept n e f = ap (λ (k : ℕ). Some k) f ∙ sym (select-true _ _ e)

  broken : keeps_rules u ≡ false → None ≡ check_of u
  broken e = sym (select-false _ _ e)

pub returns-then-unit-at : goal.returns-then-unit-at
returns-then-unit-at c =
    let l = c.loop-marks in
    let u = c.args.unit.now in
    kept u _ (l.invariant.2 ∙ keeps-last u l.i _ l.invariant.0 c.next-at.ensures c.if-unit-at.true)
    (un-count-last u l.i _ l.invariant.0 c.next-at.ensures (length (unescape u)) l.marks c.if-unit-at.true l.invariant.3)

pub bounds-unit-at : goal.bounds-unit-at
bounds-unit-at c = let r = room _ _ _ c.loop-marks.invariant.0 c.next-at.ensures c.if-unit-at.false in omega arith

pub returns-then-unit-at-ne3 : goal.returns-then-unit-at-ne3
returns-then-unit-at-ne3 c =
    let l = c.loop-marks in
    let u = c.args.unit.now in
    elim c.then-unit-at-ne3.branch [
      | then-unit-at-ne3-via-then-unit-at-ne3 w ↦
          broken u (l.invariant.2 ∙ keeps-not-mark u l.i _ l.invariant.0 c.next-at.ensures c.if-unit-at.false w.if-unit-at-ne3.true)
      | then-unit-at-ne3-via-else-unit-at-ne3+then-byte_at-gt3 w ↦
          let next = rw w.byte_at.ensures at w.if-byte_at-gt3.true in
          broken u (l.invariant.2 ∙ keeps-bad u l.i _ l.invariant.0 c.next-at.ensures c.if-unit-at.false w.if-unit-at-ne3.false next)
    ]

pub loop-marks-preserved : goal.loop-marks-preserved
loop-marks-preserved c =
    let l = c.loop-marks in
    let u = c.args.unit.now in
    let r = room u l.i _ l.invariant.0 c.next-at.ensures c.if-unit-at.false in
    let next = rw c.byte_at.ensures at c.if-byte_at-gt3.false in (
      r.1,
      omega arith,
      l.invariant.2 ∙ keeps_on u l.i _ l.invariant.0 c.next-at.ensures c.if-unit-at.false c.if-unit-at-ne3.false next,
      un-count-on u l.i _ l.invariant.0 c.next-at.ensures (length (unescape u)) l.marks c.if-unit-at.false c.if-unit-at-ne3.false l.invariant.3,
    )
