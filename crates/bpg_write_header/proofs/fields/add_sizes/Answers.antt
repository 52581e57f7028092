use Rattle.bpg_write_header.proofs.AddingLaws.{added, added_then}
use Rattle.bpg_write_header.proofs.fields.add_sizes.Goals as goal

pub returns : goal.returns
returns c =
    added_then (added c.append_exp_golomb.ensures)
    (added_then (added c.append_exp_golomb-2.ensures)
    (added_then (added c.append_exp_golomb-3.ensures)
    (added_then (added c.append_exp_golomb-4.ensures) (added c.append_exp_golomb-5.ensures))))
