-- Each test decides as the judgement's does.
use Rattle.std.proofs.Common.{sym, ◌∙◌}
use Rattle.bpg_sample_check.proofs.JudgeLaws.{judged-31, judged-32, judged-33, judged-ok}
use Rattle.bpg_sample_check.proofs.judgement.judge.Goals as goal

pub returns-then-not-have_equal_lengths : goal.returns-then-not-have_equal_lengths
returns-then-not-have_equal_lengths c = judged-31 _ _ _ c.sample_count-count.ensures (sym c.have_equal_lengths.ensures ∙ c.if-not-have_equal_lengths.true)

pub returns-then-not-is_depth_known : goal.returns-then-not-is_depth_known
returns-then-not-is_depth_known c =
    judged-32 _ _ _ c.sample_count-count.ensures (sym c.have_equal_lengths.ensures ∙ c.if-not-have_equal_lengths.false)
    (sym c.is_depth_known.ensures ∙ c.if-not-is_depth_known.true)

pub returns-then-not-have_samples_within : goal.returns-then-not-have_samples_within
returns-then-not-have_samples_within c =
    judged-33 _ _ _ c.sample_count-count.ensures c.max_sample.ensures (sym c.have_equal_lengths.ensures ∙ c.if-not-have_equal_lengths.false)
    (sym c.is_depth_known.ensures ∙ c.if-not-is_depth_known.false) (sym c.have_samples_within.ensures ∙ c.if-not-have_samples_within.true)

pub returns : goal.returns
returns c =
    judged-ok _ _ _ c.sample_count-count.ensures c.max_sample.ensures (sym c.have_equal_lengths.ensures ∙ c.if-not-have_equal_lengths.false)
    (sym c.is_depth_known.ensures ∙ c.if-not-is_depth_known.false) (sym c.have_samples_within.ensures ∙ c.if-not-have_samples_within.false)
