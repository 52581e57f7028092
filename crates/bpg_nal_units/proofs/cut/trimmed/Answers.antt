use Rattle.std.proofs.Common.{◌≡◌, ap, ◌∙◌, ℕ, suc, ◌+◌, ◌-◌, ◌≤◌, ◌<◌, List, [], ◌∷◌, ◌++◌, length, take, drop, get_or, arith, length-take, length-drop}
use lib.ListN.{drop_of_length-le}
use lib.Seq.{take-suc, drop-append-le}
use Rattle.bpg_nal_units.specs.Units.{trim_zeros}
use Rattle.bpg_nal_units.proofs.TrimLaws.{trim-none, trim-zero, trim-kept}
use Rattle.bpg_nal_units.proofs.cut.trimmed.Goals as goal

module _ (d : List ℕ) (start end : ℕ) where
  abbrev part : ℕ → List ℕ
  part n = drop start (take n d)

  none_left : end ≤ start → start ≡ start + length (trim_zeros (part end))
  none_left h = rw (drop_of_length-le (take end d) {i = start} (rw length-take (omega arith)), trim-none) (omega arith)

  module _ (h : start < end) (k : end ≤ length d) where
    last_byte : part end ≡ part (end - 1) ++ (get_or d (end - 1) 0 ∷ [])
    last_byte =
        let e : end ≡ suc (end - 1) = omega arith in
        let front = take (end - 1) d in
        ap part e
        ∙ rw (take-suc d (end - 1) 0 (omega arith), drop-append-le start front (get_or d (end - 1) 0 ∷ []) (rw length-take (omega arith)))

    zero-last : get_or d (end - 1) 0 ≡ 0 → trim_zeros (part end) ≡ trim_zeros (part (end - 1))
    zero-last e = ap trim_zeros last_byte ∙ rw e (trim-zero (part (end - 1)))

    kept-last : (get_or d (end - 1) 0 ≡ 0 → ⊥) → end ≡ start + length (trim_zeros (part end))
    kept-last e = rw (ap trim_zeros last_byte, trim-kept _ _ e, ← last_byte, length-drop, length-take) (omega arith)

pub returns-then-region-last-ne0 : goal.returns-then-region-last-ne0
returns-then-region-last-ne0 c =
    let a = c.args in
    let kept = kept-last a.region.now a.start.0 c.loop-last.last (omega arith) (omega arith) c.if-region-last-ne0.true in
    rw c.loop-last.invariant.1 (omega arith)

pub loop-last-preserved : goal.loop-last-preserved
loop-last-preserved c =
    let a = c.args in
    (omega arith, c.loop-last.invariant.1 ∙ zero-last a.region.now a.start.0 c.loop-last.last (omega arith) (omega arith) c.if-region-last-ne0.false)

pub returns : goal.returns
returns c =
    let a = c.args in
    rw c.loop-last.invariant.1 (none_left a.region.now a.start.0 c.loop-last.last (omega arith))
