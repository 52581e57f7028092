-- The durations so far stand at the front, and the units that are left give the rest.
use Rattle.std.proofs.Common.{◌-◌, length}
use Rattle.bpg_frames.proofs.StoreLaws.{Storing}
use Rattle.bpg_frames.proofs.store.store_durations.Given as goal

abbrev pub invariant-units : goal.invariant-units
invariant-units l = Storing l.file l.fn.survey.start.0 l.survey.alpha l.fn.durations l.durations l.start.0 l.found l.wait

abbrev pub decreases-units : goal.decreases-units
decreases-units l = length l.file - l.start.0
