-- A file that is not read, one whose units are refused, one with too few frames or too many, and one that is well.
use Rattle.std.proofs.Common.{arith}
use Rattle.std.proofs.lemmas.Result.{err_from_is_err_and}
use Rattle.bpg_codec.specs.Lawful.{All, Byte}
use Rattle.bpg_codec.proofs.Tokens.{all-bytes}
use Rattle.bpg_frames.proofs.CallLaws.{survey-unread, survey-refused, survey-few, survey-done}
use Rattle.bpg_frames.proofs.calls.survey_file.Goals as goal

pub returns-then-reading-ne0 : goal.returns-then-reading-ne0
returns-then-reading-ne0 c = survey-unread _ _ c.read-reading.ensures.value c.if-reading-ne0.true

pub returns-in_err-count : goal.returns-in_err-count
returns-in_err-count c =
    let bytes : All Byte c.args.file.now = all-bytes c.args.file.now (λ i. omega (arith, c.type_inv.file i)) in
    let p = err_from_is_err_and c.from_residual.result c.from_residual.ensures.1 in
    rw p.1 (survey-refused _ _ c.read-reading.ensures.value bytes c.if-reading-ne0.false _ c.has_alpha-alpha.ensures _ _ c.in_err-count.ensures _ p.2)

pub returns-then-not-is_enough : goal.returns-then-not-is_enough
returns-then-not-is_enough c =
    let bytes : All Byte c.args.file.now = all-bytes c.args.file.now (λ i. omega (arith, c.type_inv.file i)) in
    survey-few _ _ c.read-reading.ensures.value bytes c.if-reading-ne0.false _ c.has_alpha-alpha.ensures _ c.in_ok-count.ensures _ c.is_enough.ensures
    c.if-not-is_enough.true _ (rw c.at.ensures at c.from.ensures)

pub returns : goal.returns
returns c =
    let bytes : All Byte c.args.file.now = all-bytes c.args.file.now (λ i. omega (arith, c.type_inv.file i)) in
    survey-done _ _ c.read-reading.ensures.value bytes c.if-reading-ne0.false _ c.has_alpha-alpha.ensures _ c.in_ok-count.ensures _ c.is_enough.ensures
    c.if-not-is_enough.false
