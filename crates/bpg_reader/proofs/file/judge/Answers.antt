-- `file::judge` meets its contract.
use Rattle.std.proofs.Common.{None, ap}
use Rattle.std.proofs.lemmas.Result.{err_from_is_err_and}
use Rattle.bpg_read_survey.specs.Bodies.{asked}
use Rattle.bpg_read_survey.proofs.FileRead.{survey-err, by-content}
use Rattle.bpg_reader.specs.Calls.{verdict_of}
use Rattle.bpg_reader.proofs.GivenLaws.{either, refused}
use Rattle.bpg_reader.proofs.file.judge.Goals as goal

pub returns-in_err-survey : goal.returns-in_err-survey
returns-in_err-survey c =
    let p = err_from_is_err_and c.from_residual.result c.from_residual.ensures.1 in
    rw (p.1, p.2) (ap verdict_of (refused None c.args.file.now _ _ (survey-err (asked None) c.args.file.now c.survey.result c.survey.ensures _ c.in_err-survey.was)))

pub returns : goal.returns
returns c =
    by-content (asked None) c.args.file.now c.survey.result c.survey.ensures c.in_ok-survey.field-0 c.in_ok-survey.was λ k w i. rw (← either None c.args.file.now, w)
