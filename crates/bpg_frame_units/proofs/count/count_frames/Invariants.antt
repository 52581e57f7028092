-- The units that are left, after the durations so far, give all.
use Rattle.std.proofs.Common.{◌-◌, length}
use Rattle.bpg_frame_units.proofs.CountLaws.{Counting}
use Rattle.bpg_frame_units.proofs.count.count_frames.Given as goal

abbrev pub invariant-loop-cut : goal.invariant-loop-cut
invariant-loop-cut l = Counting l.file l.fn.«data».0 l.alpha l.start.0 l.found l.wait

abbrev pub decreases-loop-cut : goal.decreases-loop-cut
decreases-loop-cut l = length l.file - l.start.0
