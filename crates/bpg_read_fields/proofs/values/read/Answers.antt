-- `values::read` meets its contract.
use Rattle.std.proofs.Common.{Option, Some, None, Bool, true, List, ◌≡◌, ℕ, ◌+◌, ◌-◌, ◌≤◌, ◌<◌, get_or, set, sym, ap, subst, ◌∙◌, arith}
use Rattle.bpg_codec.specs.Outcome.{Outcome, ◌>>=◌}
use Rattle.bpg_codec.specs.Codec.{decode_at}
use Rattle.bpg_bytes.specs.declared.position.BitPos.{BitPos}
use Rattle.bpg_bytes.specs.declared.position.Located.{Located}
use Rattle.bpg_bits.specs.BitNumbers.{region_bits}
use Rattle.bpg_bits.specs.Answers.{bit_answer}
use Rattle.bpg_bits.proofs.Items.{value-outcome}
use Rattle.bpg_next_bits.specs.NextBits.{InWord}
use Rattle.bpg_read_fields.specs.Table.{widths, gates, no_values, field_codec, values_from, values_answer}
use Rattle.bpg_read_fields.proofs.LoopLaws.{values-end, values-present, missing-ends}
use Rattle.bpg_read_fields.proofs.TableLaws.{field-later}
use Rattle.bpg_read_fields.proofs.GroupLaws.{forward, before-next, before-end, group-absent}
use Rattle.bpg_read_fields.proofs.values.read.Goals as goal

-- ---- a field is there: it is read, or it is missing

module _ (region values : List ℕ) (k next at : ℕ) (more : k < 25) (present : get_or values (get_or gates k 0) 0 ≡ 1)
    (left : values_from (region_bits region) (25 - k) values next ≡ values_from (region_bits region) 25 no_values at)
    (r : Option (Located ℕ BitPos)) (e : r ≡ bit_answer (decode_at (region_bits region) (field_codec true (get_or widths k 0)) 0 next)) where
  abbrev bits : List Bool
  bits = region_bits region

  abbrev field : Outcome (ℕ × ℕ)
  field = decode_at bits (field_codec true (get_or widths k 0)) 0 next

  abbrev rest : ℕ × ℕ → Outcome (List ℕ × ℕ)
  rest x = values_from bits (25 - (k + 1)) (set values k x.0) x.1

  whole : values_from bits 25 no_values at ≡ (field >>= rest)
  whole = sym left ∙ values-present bits values next k more present

  missing : r ≡ None → None ≡ values_answer (values_from bits 25 no_values at)
  missing m = missing-ends r field e m rest ∙ ap values_answer (sym whole)

  module _ (x : Located ℕ BitPos) (s : r ≡ Some x) where
    later : next ≤ x.next.0
    later = field-later bits next (get_or widths k 0) _ (sym (value-outcome {m = field} r e x s))

    then : values_from bits (25 - (k + 1)) (set values k x.value) x.next.0 ≡ values_from bits 25 no_values at
    then = sym (whole ∙ ap (λ (o : Outcome (ℕ × ℕ)). o >>= rest) (sym (value-outcome {m = field} r e x s)))

-- the gate, as it was looked up
gate-is : (values : List ℕ) (g k : ℕ) → g ≡ get_or gates k 0 → get_or values g 0 ≡ get_or values (get_or gates k 0) 0
gate-is values g k e = ap (λ (g : ℕ). get_or values g 0) e

-- ---- the goals

pub loop-k-smaller-then-values-gate-ne1 : goal.loop-k-smaller-then-values-gate-ne1
loop-k-smaller-then-values-gate-ne1 c =
    let f = forward c.loop-k.k c.loop-k-test.true in
    rw (c.after_group-k.ensures, c.from-gate.ensures) (omega (arith, f.0, f.1))

pub loop-k-preserved-then-values-gate-ne1 : goal.loop-k-preserved-then-values-gate-ne1
loop-k-preserved-then-values-gate-ne1 c =
    let l = c.loop-k in
    let h = c.loop-k-test.true in
    let off = λ (e : get_or l.values (get_or gates l.k 0) 0 ≡ 1). c.if-values-gate-ne1.true (gate-is l.values _ l.k c.from-gate.ensures ∙ e) in
    let whole = sym (group-absent l.k l.values h l.invariant.before off _ l.next) ∙ l.invariant.left in
    rw (c.after_group-k.ensures, c.from-gate.ensures) (record {
      k_small = (forward l.k h).1;
      before = before-end l.k l.values h l.invariant.before;
      held = l.invariant.held;
      left = whole;
    })

pub returns-in_err-field : goal.returns-in_err-field
returns-in_err-field c =
    let l = c.loop-k in
    c.from_residual.ensures
    ∙ missing c.args.region.now l.values l.k l.next c.args.at.0 c.loop-k-test.true (sym (gate-is l.values _ l.k c.from-gate.ensures) ∙ c.if-values-gate-ne1.false)
    l.invariant.left c.read.result c.read.ensures c.in_err-field.was

pub overflow_sub-field : goal.overflow_sub-field
overflow_sub-field c =
    let l = c.loop-k in
    later c.args.region.now l.values l.k l.next c.args.at.0 c.loop-k-test.true (sym (gate-is l.values _ l.k c.from-gate.ensures) ∙ c.if-values-gate-ne1.false)
    l.invariant.left c.read.result c.read.ensures c.in_ok-field.field c.in_ok-field.was

pub loop-k-preserved : goal.loop-k-preserved
loop-k-preserved c =
    let l = c.loop-k in
    let x = c.in_ok-field.field in
    let h = c.loop-k-test.true in
    let present = sym (gate-is l.values _ l.k c.from-gate.ensures) ∙ c.if-values-gate-ne1.false in
    let after : l.next ≤ x.next.0 =
    later c.args.region.now l.values l.k l.next c.args.at.0 h present l.invariant.left c.read.result c.read.ensures x c.in_ok-field.was in
    let there : l.next + (x.next.0 - l.next) ≡ x.next.0 = omega (arith, after) in
    record {
      k_small = omega (arith, h);
      before = before-next l.k l.values h l.invariant.before _ present;
      held = subst (λ (p : ℕ). InWord c.args.region.now p c.after-bits.result.word c.after-bits.result.count) there (c.after-bits.ensures _ _ l.invariant.held);
      left = then c.args.region.now l.values l.k l.next c.args.at.0 h present l.invariant.left c.read.result c.read.ensures x c.in_ok-field.was;
    }

pub returns : goal.returns
returns c =
    let l = c.loop-k in
    ap values_answer (sym (values-end _ l.k l.values l.next c.loop-k-test.false) ∙ l.invariant.left)
