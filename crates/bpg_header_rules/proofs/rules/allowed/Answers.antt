-- `rules::allowed` meets its contract.
use mathlib.Core.Bool.{and-true, and_assoc}
use Rattle.bpg_format.specs.Tests.{hevc_allowed}
use Rattle.bpg_header_rules.proofs.rules.allowed.Goals as goal

pub returns-then-h : goal.returns-then-h
unfolding hevc_allowed
returns-then-h c =
    simp (c.if-h.true, c.pcm_allowed.ensures, c.min.ensures, c.from-min_cb.ensures, c.from.ensures, c.from-min_tb.ensures, c.from-2.ensures, c.from-3.ensures, and_assoc)

pub returns : goal.returns
unfolding hevc_allowed
returns c = simp (c.if-h.false, c.min.ensures, c.from-min_cb.ensures, c.from.ensures, c.from-min_tb.ensures, c.from-2.ensures, c.from-3.ensures, and_assoc, and-true)
