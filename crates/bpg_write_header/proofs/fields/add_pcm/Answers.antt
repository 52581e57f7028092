use borrow.Author.Tests.{not-true, not-false}
use Rattle.bpg_write_header.proofs.AddingLaws.{added, added-bits, added_then, left_out, put_in}
use Rattle.bpg_write_header.proofs.fields.add_pcm.Goals as goal

pub returns-then-not-h : goal.returns-then-not-h
returns-then-not-h c = left_out _ (not-true _ c.if-not-h.true)

pub returns : goal.returns
returns c =
    put_in (not-false _ c.if-not-h.false)
    (added_then (added-bits _ c.append.ensures c.from.ensures)
    (added_then (added-bits _ c.append-2.ensures c.from-2.ensures)
    (added_then (added c.append_exp_golomb.ensures)
    (added_then (added c.append_exp_golomb-2.ensures) (added c.append_flag.ensures)))))
