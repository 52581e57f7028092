use Rattle.std.proofs.Common.{ℕ, ◌+◌, sym, ap, ◌∙◌}
use Rattle.bpg_codec.specs.Bits.{bytes_for}
use Rattle.bpg_codec.proofs.Select.{select-true, select-false}
use Rattle.bpg_write_plan.proofs.layout.header_size.Goals as goal

pub returns-then-not-present-clause-value : goal.returns-then-not-present-clause-value
returns-then-not-present-clause-value c = sym (select-false _ _ c.if-not-present.true)

pub returns-clause-value : goal.returns-clause-value
returns-clause-value c = ap (λ (n : ℕ). n + bytes_for c.args.bits) c.size.ensures.value ∙ sym (select-true _ _ c.if-not-present.false)
