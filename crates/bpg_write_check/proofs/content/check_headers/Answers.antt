use Rattle.std.proofs.Common.{Bool, not, ◌||◌, ◌≡◌, ◌+◌, length, sym, ap, ◌∙◌, arith}
use Rattle.std.proofs.lemmas.Result.{err_from_is_err_and}
use Rattle.bpg_format.specs.declared.record.Header.{Header}
use Rattle.bpg_format.specs.Records.{content_of}
use Rattle.bpg_format.specs.Write.{check_header}
use Rattle.bpg_format.proofs.Typed.{headers-count}
use Rattle.bpg_write_check.specs.Check.{check_headers}
use Rattle.bpg_write_check.proofs.ConsistentLaws.{header_at}
use Rattle.bpg_write_check.proofs.ContentLaws.{both-headers}
use Rattle.bpg_write_check.proofs.content.check_headers.Goals as goal

pub returns-then-not-controlled : goal.returns-then-not-controlled
unfolding check_headers content_of
returns-then-not-controlled c = λ source. rw (← c.has_control.ensures source, c.if-not-controlled.true)

pub returns-in_err-check_alpha : goal.returns-in_err-check_alpha
returns-in_err-check_alpha c =
    let p = err_from_is_err_and c.from_residual.result c.from_residual.ensures.1 in
    λ source.
    let there = ap (λ (b : Bool). not c.args.«record».now.animation_flag || b) (sym (c.has_control.ensures source)) ∙ c.if-not-controlled.false in
    rw (both-headers c.args.«record».now source there, ← c.in_err-check_alpha.ensures, p.1, p.2)

pub returns : goal.returns
returns c =
    let two : length c.args.«record».now.headers ≡ 2 = search headers-count in
    λ source.
    let there = ap (λ (b : Bool). not c.args.«record».now.animation_flag || b) (sym (c.has_control.ensures source)) ∙ c.if-not-controlled.false in
    rw (both-headers c.args.«record».now source there, ← c.in_ok-check_alpha.ensures)
    (c.check.ensures ∙ ap (λ (h : Header). check_header (c.args.«record».now.bit_depth_minus_8 + 8) h) (header_at _ c.args.«record».now.headers 1 two (omega arith)))
