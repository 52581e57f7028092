use Rattle.std.proofs.Common.{sym}
use borrow.Author.Tests.{eq-eqb, ne_eqb}
use Rattle.bpg_codec.proofs.Select.{select-true, select-false}
use Rattle.bpg_canonical_record.proofs.canonical_entry.Goals as goal

pub returns-then-entry-ne5 : goal.returns-then-entry-ne5
returns-then-entry-ne5 c = sym (select-false _ _ (ne_eqb _ _ c.if-entry-ne5.true))

pub returns : goal.returns
returns c = sym (select-true _ _ (eq-eqb _ _ c.if-entry-ne5.false))
