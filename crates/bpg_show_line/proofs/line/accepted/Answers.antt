-- The parts are gathered one after the other, and the whole fits.
use Rattle.std.proofs.Common.{ℕ, ◌+◌, ap, arith}
use Rattle.bpg_show_line.specs.Text.{ascii}
use Rattle.bpg_show_line.proofs.LineBufferLaws.{gathered_none, gathered-text, gathered-same, gathered-labelled}
use Rattle.bpg_show_line.proofs.LineLaws.{Printable, length-accepted}
use Rattle.bpg_show_line.proofs.line.accepted.Goals as goal

pub returns : goal.returns
unfolding ascii
returns c =
    let r = c.args.«record».now in
    let f = c.fits-record in
    let p : Printable r = omega (arith, f) in
    let g0 = gathered_none c.new-line.ensures in
    let g1 = gathered-labelled (ascii "size ") g0 c.append_labelled.ensures c.from.ensures in
    let g2 = gathered-labelled (ascii "x") g1 c.append_labelled-2.ensures c.from-2.ensures in
    let g3 = gathered-labelled (ascii " format ") g2 c.append_labelled-3.ensures c.from-3.ensures in
    let g4 = gathered-labelled (ascii " depth ") g3 c.append_labelled-4.ensures (ap (λ (d : ℕ). d + 8) c.from-4.ensures) in
    let g5 = gathered-labelled (ascii " space ") g4 c.append_labelled-5.ensures c.from-5.ensures in
    let g6 = gathered-same g5 c.append.ensures c.alpha_text.ensures in
    let g7 = gathered-same g6 c.append-2.ensures c.range_text.ensures in
    let g8 = gathered-same g7 c.append-3.ensures c.animation_text.ensures in
    let g9 = gathered-labelled (ascii " ext ") g8 c.append_labelled-6.ensures c.from-6.ensures in
    let g10 = gathered-labelled (ascii " data ") g9 c.append_labelled-7.ensures c.from-7.ensures in
    (gathered-text (ascii "\n") g10 c.append-4.ensures).holds (length-accepted r p)
