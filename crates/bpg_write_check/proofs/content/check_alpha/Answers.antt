use Rattle.std.proofs.Common.{◌≡◌, length, sym, ap, ◌∙◌, arith}
use Rattle.bpg_codec.proofs.Select.{select-true, select-false}
use Rattle.bpg_format.specs.declared.record.Header.{Header}
use Rattle.bpg_format.specs.Write.{check_header}
use Rattle.bpg_format.proofs.Typed.{headers-count}
use Rattle.bpg_write_check.specs.Check.{check_alpha}
use Rattle.bpg_write_check.proofs.ConsistentLaws.{header_at}
use Rattle.bpg_write_check.proofs.content.check_alpha.Goals as goal

pub returns-then-not-has_alpha : goal.returns-then-not-has_alpha
unfolding check_alpha
returns-then-not-has_alpha c = sym (select-false _ _ (sym c.if-not-has_alpha.ensures))

pub returns : goal.returns
unfolding check_alpha
returns c =
    let two : length c.args.«record».now.headers ≡ 2 = search headers-count in
    c.check.ensures
    ∙ ap (λ (h : Header). check_header c.args.depth h) (header_at _ c.args.«record».now.headers 0 two (omega arith))
    ∙ sym (select-true _ _ (sym c.if-not-has_alpha.ensures))
