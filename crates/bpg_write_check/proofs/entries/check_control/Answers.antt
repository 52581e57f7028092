use Rattle.std.proofs.Common.{Bool, ap, ◌∙◌}
use Rattle.bpg_codec.specs.Outcome.{guard}
use Rattle.bpg_write_check.proofs.EntryLaws.{control-is}
use Rattle.bpg_write_check.proofs.entries.check_control.Goals as goal

pub returns-in-Err : goal.returns-in-Err
returns-in-Err c = control-is _ c.args.source.now c.args.payload _ c.in-Err.ensures

pub returns-in-Ok : goal.returns-in-Ok
returns-in-Ok c = ap (λ (t : Bool). guard t 19 0) c.if-same_loop.ensures ∙ control-is _ c.args.source.now c.args.payload _ c.in-Ok.ensures

pub returns-in-Ok-2 : goal.returns-in-Ok-2
returns-in-Ok-2 c = ap (λ (t : Bool). guard t 19 0) c.if-same_loop.ensures ∙ control-is _ c.args.source.now c.args.payload _ c.in-Ok.ensures
