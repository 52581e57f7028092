-- The messages of the unit, by what `bpg_sei` reads of them.
use Rattle.bpg_codec.specs.Outcome.{ok, error}
use Rattle.bpg_frame_units.proofs.UnitLaws.{sei-says}
use Rattle.bpg_frame_units.proofs.kind.prefix_sei.Goals as goal

pub returns-in_default : goal.returns-in_default
returns-in_default c = λ h. sei-says _ h (error 22 0) c.in_default.ensures

pub returns : goal.returns
returns c = λ h. sei-says _ h (ok c.in-Some.durations) c.in-Some.ensures
