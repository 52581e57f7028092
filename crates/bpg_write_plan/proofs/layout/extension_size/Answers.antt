use Rattle.std.proofs.Common.{ℕ, ◌+◌, sym, ap, ◌∙◌}
use Rattle.bpg_codec.proofs.Select.{select-true, select-false}
use Rattle.bpg_write_plan.proofs.layout.extension_size.Goals as goal

pub returns-then-present-clause-value : goal.returns-then-present-clause-value
returns-then-present-clause-value c = ap (λ (n : ℕ). n + c.args.block) c.size.ensures.value ∙ sym (select-true _ _ c.if-present.true)

pub returns-else-present-clause-value : goal.returns-else-present-clause-value
returns-else-present-clause-value c = sym (select-false _ _ c.if-present.false)
