use Rattle.std.proofs.Common.{rules, arith, ◌∙◌}
use Rattle.bpg_codec.proofs.Tokens.{all-bytes}
use Rattle.bpg_canonical.proofs.FileLaws.{size-refused, size-answers}
use Rattle.bpg_canonical.proofs.file.size.Goals as goal

pub returns-then-found-ne0 : goal.returns-then-found-ne0
returns-then-found-ne0 c = c.refused.ensures ∙ size-refused c.args.file.now c.read-found.result c.read-found.ensures.value (omega arith)

pub returns : goal.returns
returns c =
    size-answers c.args.file.now c.read-found.result c.read-found.ensures.value (all-bytes c.args.file.now (λ i. omega (arith, c.type_inv.file i))) (omega arith) _
    (rw (← c.canonical-canonical.ensures) (search rules))
