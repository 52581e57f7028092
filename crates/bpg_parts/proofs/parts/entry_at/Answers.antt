-- `parts::entry_at` meets its contract.
use Rattle.std.proofs.Common.{ap, arith}
use Rattle.bpg_codec.proofs.Tokens.{all-bytes}
use Rattle.bpg_format.specs.declared.answer.Reading.{Reading}
use Rattle.bpg_parts.proofs.PartLaws.{entry_absent, entry_found, count_most}
use Rattle.bpg_parts.proofs.parts.entry_at.Goals as goal

pub returns-then-reading-k : goal.returns-then-reading-k
returns-then-reading-k c = entry_absent _ _ c.read-reading.result c.read-reading.ensures.value c.if-reading-k.true

pub bounds-reading-k : goal.bounds-reading-k
bounds-reading-k c =
    let most = count_most c.args.file.now (all-bytes c.args.file.now (λ i. omega (arith, c.type_inv.file i))) in
    omega (arith, c.if-reading-k.false, most, ap (λ (x : Reading). x.«record».entry_count) c.read-reading.ensures.value)

pub returns : goal.returns
returns c = entry_found _ _ c.read-reading.result c.read-reading.ensures.value c.if-reading-k.false
