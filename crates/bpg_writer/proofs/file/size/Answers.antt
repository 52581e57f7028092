use Rattle.std.proofs.Common.{rules}
use Rattle.bpg_writer.proofs.FileLaws.{size-refused, size_is}
use Rattle.bpg_writer.proofs.file.size.Goals as goal

pub returns-in-Ok : goal.returns-in-Ok
returns-in-Ok c = size_is c.args.«record» c.args.source.now c.in-Ok.plan c.in-Ok.ensures _ (search rules)

pub returns-in-Err : goal.returns-in-Err
returns-in-Err c = rw (c.refused.ensures, c.at.ensures) (size-refused c.args.«record» c.args.source.now _ c.in-Err.ensures)
