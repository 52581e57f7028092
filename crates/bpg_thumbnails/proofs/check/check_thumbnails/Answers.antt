use Rattle.std.proofs.Common.{ap, ◌∙◌}
use Rattle.bpg_thumbnails.specs.Calls.{checked_of}
use Rattle.bpg_thumbnails.proofs.LevelLaws.{outer-refused, outer-entered}
use Rattle.bpg_thumbnails.proofs.check.check_thumbnails.Goals as goal

pub returns-then-reading-ne0 : goal.returns-then-reading-ne0
returns-then-reading-ne0 c = outer-refused _ _ c.read-reading.ensures.value c.if-reading-ne0.true

pub returns : goal.returns
returns c =
    outer-entered _ _ c.read-reading.ensures.value _ (c.of.ensures ∙ ap checked_of c.check_file.ensures) c.if-reading-ne0.false
