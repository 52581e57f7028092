-- The count of the survey, or the refusal.
use Rattle.std.proofs.Common.{[], ◌∙◌}
use Rattle.bpg_frames.proofs.CallLaws.{count-refused, count-surveyed}
use Rattle.bpg_frames.proofs.calls.frame_count.Goals as goal

pub returns-in-Ok : goal.returns-in-Ok
returns-in-Ok c = c.of.ensures ∙ count-surveyed _ [] _ c.in-Ok.ensures

pub returns-in-Err : goal.returns-in-Err
returns-in-Err c = count-refused _ [] _ c.in-Err.ensures
