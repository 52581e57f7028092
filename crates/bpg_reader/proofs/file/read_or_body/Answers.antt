-- `file::read_or_body` meets its contract.
use Rattle.std.proofs.Common.{refl, sym, set, ap, ap₂, ◌∙◌, arith}
use Rattle.std.specs.Prelude.{option_copied}
use lib.Seq.{length-take-le}
use Rattle.bpg_codec.proofs.Tokens.{all-bytes}
use Rattle.bpg_format.specs.declared.answer.Reading.{Reading}
use Rattle.bpg_format.specs.Records.{entries_at, pad_entries, with_entries}
use Rattle.bpg_read_survey.specs.Bodies.{asked}
use Rattle.bpg_read_survey.proofs.FileRead.{survey-err, survey-read, head_there, short, data-inside, min-cb-small}
use Rattle.bpg_read_survey.proofs.Walking.{begins, end-inside, entry_reads}
use Rattle.bpg_reader.proofs.GivenLaws.{answered, refused}
use Rattle.bpg_reader.proofs.AssembledLaws.{assembled-file}
use Rattle.bpg_reader.proofs.Filling.{no-entries, fills, full, replaced}
use Rattle.bpg_reader.proofs.file.read_or_body.Goals as goal

pub returns-in-Err : goal.returns-in-Err
returns-in-Err c =
    let given = option_copied c.args.given in
    c.refused.ensures ∙ refused given c.args.file.now _ _ (survey-err (asked given) c.args.file.now c.survey-found.result c.survey-found.ensures c.in-Err.refusal c.in-Err.is)

pub unwrap-head-requires : goal.unwrap-head-requires
unwrap-head-requires c = head_there (asked (option_copied c.args.given)) c.args.file.now c.survey-found.result c.survey-found.ensures c.in-Ok.rest c.in-Ok.is

pub assemble-reading-requires-clause-len_le_max_file : goal.assemble-reading-requires-clause-len_le_max_file
assemble-reading-requires-clause-len_le_max_file c =
    let bytes = all-bytes c.args.file.now (λ i. omega (arith, c.type_inv.file i)) in
    short (survey-read (asked (option_copied c.args.given)) c.args.file.now c.survey-found.result c.survey-found.ensures c.in-Ok.rest c.in-Ok.is bytes c.unwrap-head.result c.unwrap-head.ensures).0

pub assemble-reading-requires-clause-next_le_len : goal.assemble-reading-requires-clause-next_le_len
assemble-reading-requires-clause-next_le_len c =
    let bytes = all-bytes c.args.file.now (λ i. omega (arith, c.type_inv.file i)) in
    data-inside (survey-read (asked (option_copied c.args.given)) c.args.file.now c.survey-found.result c.survey-found.ensures c.in-Ok.rest c.in-Ok.is bytes c.unwrap-head.result c.unwrap-head.ensures).0

pub assemble-reading-requires-clause-log2_min_luma_coding_block_size_minus3_bound : goal.assemble-reading-requires-clause-log2_min_luma_coding_block_size_minus3_bound
assemble-reading-requires-clause-log2_min_luma_coding_block_size_minus3_bound c =
    let bytes = all-bytes c.args.file.now (λ i. omega (arith, c.type_inv.file i)) in
    min-cb-small (survey-read (asked (option_copied c.args.given)) c.args.file.now c.survey-found.result c.survey-found.ensures c.in-Ok.rest c.in-Ok.is bytes c.unwrap-head.result c.unwrap-head.ensures).0

pub overflow_add-end : goal.overflow_add-end
overflow_add-end c =
    let bytes = all-bytes c.args.file.now (λ i. omega (arith, c.type_inv.file i)) in
    let w = (survey-read (asked (option_copied c.args.given)) c.args.file.now c.survey-found.result c.survey-found.ensures c.in-Ok.rest c.in-Ok.is bytes c.unwrap-head.result c.unwrap-head.ensures).0 in
    record { fits = omega (arith, end-inside w, short w) }

pub loop-k-init : goal.loop-k-init
loop-k-init c =
    let bytes = all-bytes c.args.file.now (λ i. omega (arith, c.type_inv.file i)) in
    let w = (survey-read (asked (option_copied c.args.given)) c.args.file.now c.survey-found.result c.survey-found.ensures c.in-Ok.rest c.in-Ok.is bytes c.unwrap-head.result c.unwrap-head.ensures).0 in
    record {
      filling = no-entries _ (ap (λ (r : Reading). r.«record».entries) c.assemble-reading.ensures) (begins w);
      kept = refl;
    }

pub slice_bounds-read_checked-end : goal.slice_bounds-read_checked-end
slice_bounds-read_checked-end c =
    let bytes = all-bytes c.args.file.now (λ i. omega (arith, c.type_inv.file i)) in
    let w = (survey-read (asked (option_copied c.args.given)) c.args.file.now c.survey-found.result c.survey-found.ensures c.in-Ok.rest c.in-Ok.is bytes c.unwrap-head.result c.unwrap-head.ensures).0 in
    sym (length-take-le _ c.args.file.now (end-inside w))

pub unwrap-step-requires : goal.unwrap-step-requires
unwrap-step-requires c = entry_reads c.loop-k.invariant.filling.walking c.loop-k-test.true c.read_checked.result c.read_checked.ensures

pub loop-k-preserved : goal.loop-k-preserved
loop-k-preserved c =
    let l = c.loop-k in
    let x = with_entries l.reading.«record» (set l.reading.«record».entries l.k c.unwrap-step.result.value) in
    record {
      filling = fills l.invariant.filling c.loop-k-test.true c.read_checked.result c.read_checked.ensures c.unwrap-step.result c.unwrap-step.ensures;
      kept = ap (λ (r : Reading). replaced r x) l.invariant.kept;
    }

pub returns : goal.returns
returns c =
    let l = c.loop-k in
    let bytes = all-bytes c.args.file.now (λ i. omega (arith, c.type_inv.file i)) in
    let s = survey-read (asked (option_copied c.args.given)) c.args.file.now c.survey-found.result c.survey-found.ensures c.in-Ok.rest c.in-Ok.is bytes c.unwrap-head.result c.unwrap-head.ensures in
    let es = pad_entries (entries_at c.unwrap-head.result.end.0 s.0.content.extensions) in
    l.invariant.kept
    ∙ ap₂ replaced c.assemble-reading.ensures
    (full l.invariant.filling c.loop-k-test.false s.0.content s.0.read ∙ ap (λ (r : Reading). with_entries r.«record» es) c.assemble-reading.ensures)
    ∙ assembled-file s.0 ∙ answered (option_copied c.args.given) c.args.file.now s.1
