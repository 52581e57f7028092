-- In the same way as `line::accepted`.
use Rattle.std.proofs.Common.{refl}
use Rattle.bpg_show_line.specs.Text.{ascii}
use Rattle.bpg_show_line.proofs.LineBufferLaws.{gathered_none, gathered-text, gathered-labelled}
use Rattle.bpg_show_line.proofs.LineLaws.{length-refused}
use Rattle.bpg_show_line.proofs.line.refused.Goals as goal

pub returns : goal.returns
unfolding ascii
returns c =
    let g0 = gathered_none c.new-line.ensures in
    let g1 = gathered-labelled (ascii "refused ") g0 c.append_labelled.ensures c.from.ensures in
    let g2 = gathered-labelled (ascii " at ") g1 c.append_labelled-2.ensures refl in
    (gathered-text (ascii "\n") g2 c.append.ensures).holds (length-refused _ _ c.ranges.status.fits c.ranges.offset.fits)
