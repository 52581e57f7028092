use borrow.Author.Tests.{not-true, not-false}
use Rattle.bpg_write_header.proofs.AddingLaws.{added, added-bits, added_then, left_out, put_in}
use Rattle.bpg_write_header.proofs.fields.add_sps.Goals as goal

pub returns-then-not-h : goal.returns-then-not-h
returns-then-not-h c = left_out _ (not-true _ c.if-not-h.true)

pub returns : goal.returns
returns c = put_in (not-false _ c.if-not-h.false) (added_then (added c.append_flag.ensures) (added-bits _ c.append.ensures c.from.ensures))
