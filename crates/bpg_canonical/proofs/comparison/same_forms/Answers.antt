use Rattle.std.proofs.Common.{◌∙◌}
use Rattle.bpg_canonical.proofs.ComparisonLaws.{first-refused, second-refused, both-same}
use Rattle.bpg_canonical.proofs.comparison.same_forms.Goals as goal

pub returns-then-one-ne0 : goal.returns-then-one-ne0
returns-then-one-ne0 c = first-refused c.args.one c.args.other _ _ c.if-one-ne0.true

pub returns-then-other-ne0 : goal.returns-then-other-ne0
returns-then-other-ne0 c = second-refused c.args.one c.args.other _ _ c.if-other-ne0.true

pub returns : goal.returns
returns c = c.eq.ensures ∙ both-same c.args.one c.args.other c.args.first.now c.args.second.now c.if-one-ne0.false c.if-other-ne0.false
