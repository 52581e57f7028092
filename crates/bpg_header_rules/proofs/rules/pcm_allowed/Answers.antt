-- `rules::pcm_allowed` meets its contract.
use mathlib.Core.Bool.{and_assoc}
use Rattle.bpg_format.specs.Tests.{pcm_allowed}
use Rattle.bpg_header_rules.proofs.rules.pcm_allowed.Goals as goal

pub returns : goal.returns
unfolding pcm_allowed
returns c =
    simp (c.min.ensures, c.min-2.ensures, c.from-min_pcm.ensures, c.from.ensures, c.from-luma.ensures, c.from-chroma.ensures, c.from-most.ensures, c.from-min_cb.ensures, c.from-2.ensures, and_assoc)
