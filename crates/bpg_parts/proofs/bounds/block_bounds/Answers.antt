-- `bounds::block_bounds` meets its contract.
use Rattle.std.proofs.Common.{arith}
use Rattle.std.specs.Prelude.{None}
use Rattle.bpg_codec.proofs.Tokens.{all-bytes}
use Rattle.bpg_read_survey.specs.Bodies.{asked}
use Rattle.bpg_read_survey.proofs.FileRead.{survey-read, head_there, short}
use Rattle.bpg_read_survey.proofs.Walking.{end-inside}
use Rattle.bpg_parts.proofs.BoundsLaws.{bounds-err, accepted-bounds}
use Rattle.bpg_parts.proofs.bounds.block_bounds.Goals as goal

pub returns-in_default : goal.returns-in_default
returns-in_default c = bounds-err c.args.file.now c.survey-found.result c.survey-found.ensures c.in_default.field-0 c.in_default.is

pub unwrap-head-requires : goal.unwrap-head-requires
unwrap-head-requires c = head_there (asked None) c.args.file.now c.survey-found.result c.survey-found.ensures c.in-Ok.field-0 c.in-Ok.is

pub overflow_add-end : goal.overflow_add-end
overflow_add-end c =
    let bytes = all-bytes c.args.file.now (λ i. omega (arith, c.type_inv.file i)) in
    let w = (survey-read (asked None) c.args.file.now c.survey-found.result c.survey-found.ensures c.in-Ok.field-0 c.in-Ok.is bytes c.unwrap-head.result c.unwrap-head.ensures).0 in
    record { fits = omega (arith, end-inside w, short w) }

pub returns : goal.returns
returns c =
    let bytes = all-bytes c.args.file.now (λ i. omega (arith, c.type_inv.file i)) in
    accepted-bounds c.args.file.now c.unwrap-head.result c.in-Ok.field-0
    (survey-read (asked None) c.args.file.now c.survey-found.result c.survey-found.ensures c.in-Ok.field-0 c.in-Ok.is bytes c.unwrap-head.result c.unwrap-head.ensures).0
