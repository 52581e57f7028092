-- `header::with_size` meets its contract.
use Rattle.std.proofs.Common.{Option, ◌≡◌, ℕ, min, ◌*◌, ◌^◌, ◌≤◌, List, length, sym, ap, ◌∙◌, arith}
use Rattle.bpg_codec.specs.Codec.{decode_at}
use Rattle.bpg_bytes.specs.declared.position.BitPos.{BitPos}
use Rattle.bpg_bytes.specs.declared.position.Located.{Located}
use Rattle.bpg_bits.specs.BitNumbers.{region_bits}
use Rattle.bpg_format.specs.declared.record.Header.{Header}
use Rattle.bpg_format.specs.Limits.{max_file}
use Rattle.bpg_format.specs.FileCodec.{header_fields}
use Rattle.bpg_read_fields.specs.AllFields.{fields_answer}
use Rattle.bpg_read_headers.proofs.HeaderLaws.{field-missing, not-padded, forbidden, rule-broken, header_read}
use Rattle.bpg_read_headers.proofs.header.with_size.Goals as goal

-- a position in a file is one in its bits
in-bits : (region : List ℕ) (start bit : ℕ) → length region ≤ max_file → start ≤ length region → bit ≡ 8 * min start (2 ^ 60)
    → (r : Option (Located Header BitPos)) → r ≡ fields_answer (decode_at (region_bits region) header_fields 0 bit)
    → r ≡ fields_answer (decode_at (region_bits region) header_fields 0 (8 * start))
in-bits region start bit short inside b r e =
    let w : bit ≡ 8 * start = omega (arith, short, inside) in
    e ∙ ap (λ (n : ℕ). fields_answer (decode_at (region_bits region) header_fields 0 n)) w

pub returns-in_default : goal.returns-in_default
returns-in_default c =
    let fields = in-bits c.args.region.now c.args.start.0 _ c.requires.region_bound c.requires.start_bound c.first_bit.ensures c.read.result c.read.ensures in
    rw c.at.ensures (field-missing _ _ _ _ c.requires.region_bound _ fields c.in_default.is)

pub returns-then-not-is_padding : goal.returns-then-not-is_padding
returns-then-not-is_padding c =
    let fields = in-bits c.args.region.now c.args.start.0 _ c.requires.region_bound c.requires.start_bound c.first_bit.ensures c.read.result c.read.ensures in
    rw c.at-then-not-is_padding.ensures
    (not-padded _ _ _ _ c.requires.region_bound _ fields c.in-Some.fields c.in-Some.is (sym c.is_padding.ensures ∙ c.if-not-is_padding.true))

pub returns-then-not-no_forbidden_bit : goal.returns-then-not-no_forbidden_bit
returns-then-not-no_forbidden_bit c =
    let fields = in-bits c.args.region.now c.args.start.0 _ c.requires.region_bound c.requires.start_bound c.first_bit.ensures c.read.result c.read.ensures in
    rw c.at-then-not-no_forbidden_bit.ensures
    (forbidden _ _ _ _ c.requires.region_bound _ fields c.in-Some.fields c.in-Some.is (sym c.is_padding.ensures ∙ c.if-not-is_padding.false)
    (sym c.no_forbidden_bit.ensures ∙ c.if-not-no_forbidden_bit.true))

pub returns-then-not-allowed : goal.returns-then-not-allowed
returns-then-not-allowed c =
    let fields = in-bits c.args.region.now c.args.start.0 _ c.requires.region_bound c.requires.start_bound c.first_bit.ensures c.read.result c.read.ensures in
    rw c.at-then-not-allowed.ensures
    (rule-broken _ _ _ _ c.requires.region_bound _ fields c.in-Some.fields c.in-Some.is (sym c.is_padding.ensures ∙ c.if-not-is_padding.false)
    (sym c.no_forbidden_bit.ensures ∙ c.if-not-no_forbidden_bit.false) (sym c.allowed.ensures ∙ c.if-not-allowed.true))

pub returns : goal.returns
returns c =
    let fields = in-bits c.args.region.now c.args.start.0 _ c.requires.region_bound c.requires.start_bound c.first_bit.ensures c.read.result c.read.ensures in
    header_read _ _ _ _ c.requires.region_bound _ fields c.in-Some.fields c.in-Some.is (sym c.is_padding.ensures ∙ c.if-not-is_padding.false)
    (sym c.no_forbidden_bit.ensures ∙ c.if-not-no_forbidden_bit.false) (sym c.allowed.ensures ∙ c.if-not-allowed.false)
