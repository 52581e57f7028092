use Rattle.std.proofs.Common.{false, arith}
use Rattle.std.proofs.lemmas.Result.{err_from_is_err_and}
use Rattle.bpg_codec.proofs.Tokens.{all-bytes}
use Rattle.bpg_read_entries.proofs.EntryLaws.{step-refused, step-started, plain-read, numbers-refused, numbers-read}
use Rattle.bpg_read_entries.proofs.BlockLaws.{begins, ends, full, stops, goes_on, animates, too_long, in-region}
use Rattle.bpg_read_entries.proofs.block.read.Goals as goal

pub returns-then-region-gt-MAX_FILE : goal.returns-then-region-gt-MAX_FILE
returns-then-region-gt-MAX_FILE c = rw c.at.ensures (too_long _ _ c.if-region-gt-MAX_FILE.true)

pub loop-next-init : goal.loop-next-init
loop-next-init c = begins _ _

pub returns-then-entry_count-ge-MAX_ENTRIES : goal.returns-then-entry_count-ge-MAX_ENTRIES
returns-then-entry_count-ge-MAX_ENTRIES c =
    rw (c.at-then-entry_count-ge-MAX_ENTRIES.ensures, ← in-region _ c.args.at.0 c.if-region-gt-MAX_FILE.false)
    (full _ _ _ _ c.loop-next.invariant c.loop-next-test.true (omega arith))

pub returns-in_err-step : goal.returns-in_err-step
returns-in_err-step c =
    let p = err_from_is_err_and c.from_residual.result c.from_residual.ensures.1 in
    rw (p.1, p.2, ← in-region _ c.args.at.0 c.if-region-gt-MAX_FILE.false)
    (stops _ _ _ _ c.loop-next.invariant c.loop-next-test.true (omega arith) _ _ (step-refused _ _ _ _ _ c.in_err-step.ensures))

pub control-requires : goal.control-requires
control-requires c =
    (step-started _ false _ c.in_ok-step.step c.in_ok-step.ensures (omega (arith, c.loop-next-test.true))).inside

pub returns-in_err-found : goal.returns-in_err-found
returns-in_err-found c =
    let p = err_from_is_err_and c.from_residual-in_err-found.result c.from_residual-in_err-found.ensures.1 in
    let here = step-started _ false _ c.in_ok-step.step c.in_ok-step.ensures (omega (arith, c.loop-next-test.true)) in
    rw (p.1, p.2, ← in-region _ c.args.at.0 c.if-region-gt-MAX_FILE.false)
    (stops _ _ _ _ c.loop-next.invariant c.loop-next-test.true (omega arith) _ _
    (numbers-refused _ _ _ c.in_ok-step.step here c.if-step-eq5.true _ _ (rw c.is_some-seen.ensures at c.in_err-found.ensures)))

pub loop-next-smaller-in_ok-found : goal.loop-next-smaller-in_ok-found
loop-next-smaller-in_ok-found c = omega arith

pub loop-next-preserved-in_ok-found : goal.loop-next-preserved-in_ok-found
loop-next-preserved-in_ok-found c =
    let here = step-started _ false _ c.in_ok-step.step c.in_ok-step.ensures (omega (arith, c.loop-next-test.true)) in
    let bytes = all-bytes c.args.region.now (λ i. omega (arith, c.type_inv.region i)) in
    let n = numbers-read _ _ _ c.in_ok-step.step here c.if-step-eq5.true bytes _ (rw c.is_some-seen.ensures at c.in_ok-found.ensures) in
    animates _ _ _ _ c.loop-next.invariant c.loop-next-test.true (omega arith) bytes c.in_ok-step.step here n.0 c.if-step-eq5.true n.1 c.in_ok-found.found n.2

pub loop-next-smaller : goal.loop-next-smaller
loop-next-smaller c = omega arith

pub loop-next-preserved : goal.loop-next-preserved
loop-next-preserved c =
    let here = step-started _ false _ c.in_ok-step.step c.in_ok-step.ensures (omega (arith, c.loop-next-test.true)) in
    let bytes = all-bytes c.args.region.now (λ i. omega (arith, c.type_inv.region i)) in
    goes_on _ _ _ _ c.loop-next.invariant c.loop-next-test.true (omega arith) bytes c.in_ok-step.step here
    (plain-read _ _ _ c.in_ok-step.step here c.if-step-eq5.false) c.if-step-eq5.false

pub returns : goal.returns
returns c = rw (← in-region _ c.args.at.0 c.if-region-gt-MAX_FILE.false) (ends _ _ _ _ c.loop-next.invariant c.loop-next-test.false)
