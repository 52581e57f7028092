-- A refusal, a list that is too short, and the durations stored.
use Rattle.std.proofs.Common.{arith, ◌∙◌}
use Rattle.bpg_codec.specs.Lawful.{All, Byte}
use Rattle.bpg_codec.proofs.Tokens.{all-bytes}
use Rattle.bpg_frames.proofs.CallLaws.{list-refused, list-small, list-storable, list-stored}
use Rattle.bpg_frames.proofs.calls.frames.Goals as goal

pub returns-in-Err : goal.returns-in-Err
returns-in-Err c = let r = list-refused _ c.args.durations.now _ c.in-Err.ensures in record { value = r.0; durations_after = r.1 }

pub returns-then-durations-survey : goal.returns-then-durations-survey
returns-then-durations-survey c =
    let r = list-small _ c.args.durations.now _ c.in-Ok.ensures c.if-durations-survey.true in
    record { value = rw c.at.ensures at c.from.ensures ∙ r.0; durations_after = r.1 }

pub store_durations-requires : goal.store_durations-requires
store_durations-requires c =
    let bytes : All Byte c.args.file.now = all-bytes c.args.file.now (λ i. omega (arith, c.type_inv.file i)) in
    list-storable _ c.args.durations.now _ c.in-Ok.ensures c.if-durations-survey.false bytes

pub returns : goal.returns
returns c =
    let bytes : All Byte c.args.file.now = all-bytes c.args.file.now (λ i. omega (arith, c.type_inv.file i)) in
    let r = list-stored _ c.args.durations.now _ c.in-Ok.ensures c.if-durations-survey.false bytes _ c.store_durations.ensures in
    record { value = c.of.ensures ∙ r.0; durations_after = r.1 }
