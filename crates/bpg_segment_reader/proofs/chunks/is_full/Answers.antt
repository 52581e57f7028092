use Rattle.bpg_segment_reader.proofs.ChunkLaws.{full-is}
use Rattle.bpg_segment_reader.proofs.chunks.is_full.Goals as goal

pub returns : goal.returns
returns c = full-is c.args.left c.args.size
