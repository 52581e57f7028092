use Rattle.std.proofs.Common.{◌≡◌, ◌||◌, length, sym, ap, subst, arith}
use Rattle.bpg_write_bits.specs.declared.BitBuffer.{BitBuffer}
use Rattle.bpg_format.specs.declared.record.Header.{Header}
use Rattle.bpg_format.proofs.Typed.{headers-count}
use Rattle.bpg_write_check.proofs.ConsistentLaws.{header_at}
use Rattle.bpg_write_plan.specs.FileParts.{Encoded}
use Rattle.bpg_write_plan.proofs.EncodedLaws.{absent, present, few-bits}
use Rattle.bpg_write_plan.proofs.plan.alpha_bits.Goals as goal

pub returns-then-not-has_alpha : goal.returns-then-not-has_alpha
returns-then-not-has_alpha c =
    record { len_bound = omega (arith, ap (λ (b : BitBuffer). b.len.0) c.new.ensures); encoded = absent (sym c.if-not-has_alpha.ensures) }

pub returns : goal.returns
returns c =
    let two : length c.args.«record».now.headers ≡ 2 = search headers-count in
    let e = c.encode.ensures in
    record {
      len_bound = few-bits _ e.value;
      encoded = subst (λ (h : Header). Encoded (c.args.«record».now.alpha1_flag || c.args.«record».now.alpha2_flag) h c.encode.result) (header_at _ c.args.«record».now.headers 0 two (omega arith)) (present e.value e.by_index);
    }
