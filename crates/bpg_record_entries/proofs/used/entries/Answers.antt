use Rattle.std.proofs.Common.{take, ap}
use Rattle.std.proofs.lemmas.List.{take_min}
use Rattle.bpg_record_entries.proofs.used.entries.Goals as goal

pub returns : goal.returns
returns c = rw (c.min.ensures, take_min) (ap (take c.args.«record».now.entry_count) c.as_slice-all.ensures)
