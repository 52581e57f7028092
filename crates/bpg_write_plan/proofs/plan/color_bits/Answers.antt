use Rattle.std.proofs.Common.{◌≡◌, true, length, subst, arith}
use Rattle.bpg_format.specs.declared.record.Header.{Header}
use Rattle.bpg_format.proofs.Typed.{headers-count}
use Rattle.bpg_write_check.proofs.ConsistentLaws.{header_at}
use Rattle.bpg_write_plan.specs.FileParts.{Encoded}
use Rattle.bpg_write_plan.proofs.EncodedLaws.{present, few-bits}
use Rattle.bpg_write_plan.proofs.plan.color_bits.Goals as goal

pub returns : goal.returns
returns c =
    let two : length c.args.«record».now.headers ≡ 2 = search headers-count in
    let e = c.encode.ensures in
    record {
      len_bound = few-bits _ e.value;
      encoded = subst (λ (h : Header). Encoded true h c.encode.result) (header_at _ c.args.«record».now.headers 1 two (omega arith)) (present e.value e.by_index);
    }
