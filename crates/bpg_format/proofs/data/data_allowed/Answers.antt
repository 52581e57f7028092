-- The library's tests are those of the definition.
use Rattle.std.proofs.Common.{arith}
use Rattle.bpg_format.proofs.DataRuleLaws.{by_tests}
use Rattle.bpg_format.proofs.data.data_allowed.Goals as goal

pub returns : goal.returns
returns c = rw (c.is_empty.ensures, c.starts_with.ensures.value, c.starts_with-2.ensures.value) (by_tests c.args.bytes.now _ (omega arith))
