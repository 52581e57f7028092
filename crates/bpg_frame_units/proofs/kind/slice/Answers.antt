-- A slice has a byte after its header.
use Rattle.std.proofs.Common.{refl}
use Rattle.bpg_frame_units.proofs.UnitLaws.{slice-short, slice-says, summary-none}
use Rattle.bpg_frame_units.proofs.kind.slice.Goals as goal

pub returns-then-unit-lt3 : goal.returns-then-unit-lt3
returns-then-unit-lt3 c = slice-short _ c.if-unit-lt3.true

pub returns : goal.returns
returns c = slice-says _ c.if-unit-lt3.false _ refl (summary-none _ c.default.ensures.0 c.default.ensures.1)
