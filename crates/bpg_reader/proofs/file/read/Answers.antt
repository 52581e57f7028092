-- `file::read` meets its contract.
use Rattle.std.proofs.Common.{arith}
use Rattle.bpg_codec.proofs.Tokens.{all-bytes}
use Rattle.bpg_reader.proofs.FileLaws.{exact}
use Rattle.bpg_reader.proofs.file.read.Goals as goal

pub returns-clause-variant : goal.returns-clause-variant
returns-clause-variant c = exact c.args.file.now (all-bytes c.args.file.now (λ i. omega (arith, c.type_inv.file i))) _ c.read_or_body.ensures
