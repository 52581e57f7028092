use Rattle.std.proofs.Common.{sym, ◌∙◌}
use Rattle.std.proofs.Math.Seq.{get_or-drop}
use Rattle.bpg_segment_reader.proofs.chunks.count_at.Goals as goal

pub returns : goal.returns
returns c = c.byte_at.ensures ∙ sym (get_or-drop c.args.at c.args.run.now 17 0)
