-- `given::read_on` meets its contract.
use Rattle.std.proofs.Common.{Bool, sym, ap, ◌∙◌, arith}
use Rattle.std.proofs.lemmas.Result.{err_from_is_err_and}
use Rattle.bpg_codec.proofs.Tokens.{all-bytes}
use Rattle.bpg_refusal.specs.Outcomes.{outcome}
use Rattle.bpg_format.specs.Content.{bit_depth}
use Rattle.bpg_format.specs.Tests.{data_allowed}
use Rattle.bpg_read_head.specs.Heads.{head_fields}
use Rattle.bpg_read_headers.specs.BothHeaders.{headers_in}
use Rattle.bpg_read_survey.specs.Bodies.{headers_start}
use Rattle.bpg_read_survey.proofs.BodyLaws.{block_refused, block_read, no-control, length-misses, at-headers, headers-refused, headers-read, to_end, data-stops, body_read}
use Rattle.bpg_read_survey.proofs.GivenLaws.{too_long, head-refused, head-known, other-head, rest-is, rest-refused}
use Rattle.bpg_read_survey.proofs.given.read_on.Goals as goal

pub returns-then-file-gt-LONGEST : goal.returns-then-file-gt-LONGEST
returns-then-file-gt-LONGEST c = rw c.at.ensures (too_long _ _ (omega arith))

pub returns-in_err-head : goal.returns-in_err-head
returns-in_err-head c =
    let p = err_from_is_err_and c.from_residual.result c.from_residual.ensures.1 in
    rw (p.1, p.2) (head-refused _ _ (omega arith) _ _ (ap (outcome head_fields) (sym c.in_err-head.was) ∙ c.requires))

pub returns-then-not-is_own : goal.returns-then-not-is_own
returns-then-not-is_own c =
    rw c.at-then-not-is_own.ensures
    (other-head _ _ (omega arith) c.in_ok-head.head (ap (outcome head_fields) (sym c.in_ok-head.was) ∙ c.requires) (sym c.is_own.ensures ∙ c.if-not-is_own.true))

pub entries-requires : goal.entries-requires
entries-requires c =
    let bytes = all-bytes c.args.file.now (λ i. omega (arith, c.type_inv.file i)) in
    let e = ap (outcome head_fields) (sym c.in_ok-head.was) ∙ c.requires in
    let known = head-known _ bytes (omega arith) c.in_ok-head.head e in
    known

pub returns-in_err-block : goal.returns-in_err-block
returns-in_err-block c =
    let bytes = all-bytes c.args.file.now (λ i. omega (arith, c.type_inv.file i)) in
    let e = ap (outcome head_fields) (sym c.in_ok-head.was) ∙ c.requires in
    let known = head-known _ bytes (omega arith) c.in_ok-head.head e in
    let own = rest-refused _ _ (omega arith) c.in_ok-head.head e (sym c.is_own.ensures ∙ c.if-not-is_own.false) _ _ in
    let p = err_from_is_err_and c.from_residual-in_err-block.result c.from_residual-in_err-block.ensures.1 in
    rw (p.1, p.2) (own (block_refused known _ _ c.in_err-block.ensures))

pub returns-then-not-control_fits : goal.returns-then-not-control_fits
returns-then-not-control_fits c =
    let bytes = all-bytes c.args.file.now (λ i. omega (arith, c.type_inv.file i)) in
    let e = ap (outcome head_fields) (sym c.in_ok-head.was) ∙ c.requires in
    let known = head-known _ bytes (omega arith) c.in_ok-head.head e in
    let own = rest-refused _ _ (omega arith) c.in_ok-head.head e (sym c.is_own.ensures ∙ c.if-not-is_own.false) _ _ in
    let b = block_read known c.in_ok-block.block c.in_ok-block.ensures in
    rw c.at-then-not-control_fits.ensures (own (no-control b _ c.is_some.ensures (sym c.control_fits.ensures ∙ c.if-not-control_fits.true)))

pub overflow_add-start : goal.overflow_add-start
overflow_add-start c =
    let bytes = all-bytes c.args.file.now (λ i. omega (arith, c.type_inv.file i)) in
    let e = ap (outcome head_fields) (sym c.in_ok-head.was) ∙ c.requires in
    let known = head-known _ bytes (omega arith) c.in_ok-head.head e in
    record { fits = omega (arith, known.end-inside, known.short) }

pub overflow_sub-file : goal.overflow_sub-file
overflow_sub-file c =
    let bytes = all-bytes c.args.file.now (λ i. omega (arith, c.type_inv.file i)) in
    let e = ap (outcome head_fields) (sym c.in_ok-head.was) ∙ c.requires in
    let known = head-known _ bytes (omega arith) c.in_ok-head.head e in
    let b = block_read known c.in_ok-block.block c.in_ok-block.ensures in
    b.inside

pub returns-then-not-reaches_end : goal.returns-then-not-reaches_end
returns-then-not-reaches_end c =
    let bytes = all-bytes c.args.file.now (λ i. omega (arith, c.type_inv.file i)) in
    let e = ap (outcome head_fields) (sym c.in_ok-head.was) ∙ c.requires in
    let known = head-known _ bytes (omega arith) c.in_ok-head.head e in
    let own = rest-refused _ _ (omega arith) c.in_ok-head.head e (sym c.is_own.ensures ∙ c.if-not-is_own.false) _ _ in
    let b = block_read known c.in_ok-block.block c.in_ok-block.ensures in
    rw c.at-then-not-reaches_end.ensures
    (own (length-misses b _ c.is_some.ensures (sym c.control_fits.ensures ∙ c.if-not-control_fits.false) (sym c.reaches_end.ensures ∙ c.if-not-reaches_end.true)))

pub overflow_add-depth : goal.overflow_add-depth
overflow_add-depth c =
    let bytes = all-bytes c.args.file.now (λ i. omega (arith, c.type_inv.file i)) in
    let e = ap (outcome head_fields) (sym c.in_ok-head.was) ∙ c.requires in
    let known = head-known _ bytes (omega arith) c.in_ok-head.head e in
    record { fits = omega (arith, known.depth-limit) }

pub returns-in_err-headers : goal.returns-in_err-headers
returns-in_err-headers c =
    let bytes = all-bytes c.args.file.now (λ i. omega (arith, c.type_inv.file i)) in
    let e = ap (outcome head_fields) (sym c.in_ok-head.was) ∙ c.requires in
    let known = head-known _ bytes (omega arith) c.in_ok-head.head e in
    let own = rest-refused _ _ (omega arith) c.in_ok-head.head e (sym c.is_own.ensures ∙ c.if-not-is_own.false) _ _ in
    let b = block_read known c.in_ok-block.block c.in_ok-block.ensures in
    let h = head_fields c.in_ok-head.head in
    let k = at-headers b _ c.is_some.ensures (sym c.control_fits.ensures ∙ c.if-not-control_fits.false) (sym c.reaches_end.ensures ∙ c.if-not-reaches_end.false) in
    let is = c.in_err-headers.ensures ∙ ap (λ (t : Bool). headers_in c.args.file.now t (bit_depth h.flags) (headers_start h)) c.has_alpha-alpha.ensures in
    let p = err_from_is_err_and c.from_residual-in_err-headers.result c.from_residual-in_err-headers.ensures.1 in
    rw (p.1, p.2) (own (headers-refused k _ _ is))

pub slice_bounds-data_allowed-count : goal.slice_bounds-data_allowed-count
slice_bounds-data_allowed-count c =
    let bytes = all-bytes c.args.file.now (λ i. omega (arith, c.type_inv.file i)) in
    let e = ap (outcome head_fields) (sym c.in_ok-head.was) ∙ c.requires in
    let known = head-known _ bytes (omega arith) c.in_ok-head.head e in
    let b = block_read known c.in_ok-block.block c.in_ok-block.ensures in
    let h = head_fields c.in_ok-head.head in
    let k = at-headers b _ c.is_some.ensures (sym c.control_fits.ensures ∙ c.if-not-control_fits.false) (sym c.reaches_end.ensures ∙ c.if-not-reaches_end.false) in
    let is = c.in_ok-headers.ensures ∙ ap (λ (t : Bool). headers_in c.args.file.now t (bit_depth h.flags) (headers_start h)) c.has_alpha-alpha.ensures in
    (headers-read k c.in_ok-headers.headers is).inside

pub slice_bounds-data_allowed-start : goal.slice_bounds-data_allowed-start
slice_bounds-data_allowed-start c =
    let bytes = all-bytes c.args.file.now (λ i. omega (arith, c.type_inv.file i)) in
    let e = ap (outcome head_fields) (sym c.in_ok-head.was) ∙ c.requires in
    let known = head-known _ bytes (omega arith) c.in_ok-head.head e in
    let b = block_read known c.in_ok-block.block c.in_ok-block.ensures in
    let h = head_fields c.in_ok-head.head in
    let k = at-headers b _ c.is_some.ensures (sym c.control_fits.ensures ∙ c.if-not-control_fits.false) (sym c.reaches_end.ensures ∙ c.if-not-reaches_end.false) in
    let is = c.in_ok-headers.ensures ∙ ap (λ (t : Bool). headers_in c.args.file.now t (bit_depth h.flags) (headers_start h)) c.has_alpha-alpha.ensures in
    (headers-read k c.in_ok-headers.headers is).inside

pub returns-then-not-data_allowed : goal.returns-then-not-data_allowed
returns-then-not-data_allowed c =
    let bytes = all-bytes c.args.file.now (λ i. omega (arith, c.type_inv.file i)) in
    let e = ap (outcome head_fields) (sym c.in_ok-head.was) ∙ c.requires in
    let known = head-known _ bytes (omega arith) c.in_ok-head.head e in
    let own = rest-refused _ _ (omega arith) c.in_ok-head.head e (sym c.is_own.ensures ∙ c.if-not-is_own.false) _ _ in
    let b = block_read known c.in_ok-block.block c.in_ok-block.ensures in
    let h = head_fields c.in_ok-head.head in
    let k = at-headers b _ c.is_some.ensures (sym c.control_fits.ensures ∙ c.if-not-control_fits.false) (sym c.reaches_end.ensures ∙ c.if-not-reaches_end.false) in
    let is = c.in_ok-headers.ensures ∙ ap (λ (t : Bool). headers_in c.args.file.now t (bit_depth h.flags) (headers_start h)) c.has_alpha-alpha.ensures in
    rw c.at-then-not-data_allowed.ensures (own (data-stops (headers-read k c.in_ok-headers.headers is) (sym (c.data_allowed.ensures ∙ ap data_allowed (to_end c.args.file.now c.in_ok-headers.headers.next.0)) ∙ c.if-not-data_allowed.true)))

pub returns : goal.returns
returns c =
    let bytes = all-bytes c.args.file.now (λ i. omega (arith, c.type_inv.file i)) in
    let e = ap (outcome head_fields) (sym c.in_ok-head.was) ∙ c.requires in
    let known = head-known _ bytes (omega arith) c.in_ok-head.head e in
    let own = rest-is _ _ (omega arith) c.in_ok-head.head e (sym c.is_own.ensures ∙ c.if-not-is_own.false) in
    let b = block_read known c.in_ok-block.block c.in_ok-block.ensures in
    let h = head_fields c.in_ok-head.head in
    let k = at-headers b _ c.is_some.ensures (sym c.control_fits.ensures ∙ c.if-not-control_fits.false) (sym c.reaches_end.ensures ∙ c.if-not-reaches_end.false) in
    let is = c.in_ok-headers.ensures ∙ ap (λ (t : Bool). headers_in c.args.file.now t (bit_depth h.flags) (headers_start h)) c.has_alpha-alpha.ensures in
    body_read (headers-read k c.in_ok-headers.headers is) (sym (c.data_allowed.ensures ∙ ap data_allowed (to_end c.args.file.now c.in_ok-headers.headers.next.0)) ∙ c.if-not-data_allowed.false) ∙ own
