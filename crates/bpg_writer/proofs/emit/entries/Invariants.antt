use Rattle.std.proofs.Common.{map, take}
use Rattle.bpg_format.specs.Syntax.{block_bytes}
use Rattle.bpg_format.specs.Records.{extension_of}
use Rattle.bpg_writer.proofs.PutLaws.{Put}
use Rattle.bpg_writer.proofs.emit.entries.Given as goal

-- the entries so far are written
abbrev pub invariant-loop-one : goal.invariant-loop-one
invariant-loop-one l = Put l.initial.out l.initial.next.0 (block_bytes (map (extension_of l.source) (take l.one-index l.used))) l.out l.next.0
