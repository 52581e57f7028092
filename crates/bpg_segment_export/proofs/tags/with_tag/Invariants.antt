use Rattle.std.proofs.Common.{drop}
use Rattle.bpg_segment_export.specs.Calls.{with_tag}
use Rattle.bpg_segment_export.proofs.TagLaws.{Held}
use Rattle.bpg_segment_export.proofs.tags.with_tag.Given as goal

abbrev pub invariant-loop-entry : goal.invariant-loop-entry
invariant-loop-entry l = Held l.found (with_tag l.tag l.used) (with_tag l.tag (drop l.entry-index l.used))
