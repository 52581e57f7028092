use Rattle.std.proofs.Common.{◌+◌, ◌-◌, ◌*◌, ◌++◌, ◌≤◌, List, ℕ, length, take, drop, ap, ◌∙◌, sym, subst, arith}
use Rattle.bpg_segment_rules.specs.Runs.{icc_prefix}
use Rattle.bpg_segment_rules.specs.Segments.{segment}
use Rattle.bpg_segment_rules.proofs.ChunkLaws.{count-is}
use Rattle.bpg_writer.proofs.PutLaws.{put_same}
use Rattle.bpg_segment_writer.proofs.WriteLaws.{run_is, cut-is, chunked-none, chunked-fits, chunked-more, chunked-all}
use Rattle.bpg_segment_writer.proofs.emit.profile.Goals as goal

pub loop-k-init : goal.loop-k-init
loop-k-init c =
    let whole = ap length (run_is c.args.payload.now _ c.chunk_count-total.ensures) in
    chunked-none c.args.payload.now _ c.args.out.now c.args.at.0 (omega (arith, c.requires.payload_bound_2, whole))

pub overflow_cast-k : goal.overflow_cast-k
overflow_cast-k c = omega (arith, c.requires.payload_bound, count-is c.args.payload.now, c.chunk_count-total.ensures)

pub overflow_cast-total : goal.overflow_cast-total
overflow_cast-total c = omega (arith, c.requires.payload_bound, count-is c.args.payload.now, c.chunk_count-total.ensures)

pub chunk-next-requires-clause-payload_bound_2 : goal.chunk-next-requires-clause-payload_bound_2
chunk-next-requires-clause-payload_bound_2 c =
    let icc = c.args.payload.now in
    let whole = ap length (run_is icc _ c.chunk_count-total.ensures) in
    let cut = ap (λ (t : ℕ). take (t - c.loop-k.k * 65519) (drop (c.loop-k.k * 65519) icc)) c.min-to.ensures ∙ cut-is icc (c.loop-k.k * 65519) (omega (arith, c.chunk_count-total.ensures)) in
    subst (λ (p : List ℕ). c.loop-k.next.0 + length (segment 226 (icc_prefix (c.loop-k.k + 1) c.chunk_count-total.result ++ p)) ≤ length c.loop-k.out) (sym cut)
    (chunked-fits icc _ c.args.out.now c.args.at.0 (omega (arith, c.requires.payload_bound_2, whole)) c.loop-k.out c.loop-k.next.0 c.loop-k.k c.loop-k.invariant c.loop-k-test.true)

pub loop-k-preserved : goal.loop-k-preserved
loop-k-preserved c =
    let icc = c.args.payload.now in
    let whole = ap length (run_is icc _ c.chunk_count-total.ensures) in
    let cut = ap (λ (t : ℕ). take (t - c.loop-k.k * 65519) (drop (c.loop-k.k * 65519) icc)) c.min-to.ensures ∙ cut-is icc (c.loop-k.k * 65519) (omega (arith, c.chunk_count-total.ensures)) in
    chunked-more icc _ c.args.out.now c.args.at.0 (omega (arith, c.requires.payload_bound_2, whole)) c.loop-k.out c.loop-k.next.0 c.loop-k.k c.loop-k.invariant c.loop-k-test.true
    (put_same c.loop-k.out c.loop-k.next.0 (ap (λ (p : List ℕ). segment 226 (icc_prefix (c.loop-k.k + 1) c.chunk_count-total.result ++ p)) cut)
    (c.chunk-next.ensures.out_after, c.chunk-next.ensures.result_value))

pub returns : goal.returns
returns c =
    let icc = c.args.payload.now in
    let whole = ap length (run_is icc _ c.chunk_count-total.ensures) in
    let p = put_same c.args.out.now c.args.at.0 (run_is icc _ c.chunk_count-total.ensures)
    (chunked-all icc _ c.args.out.now c.args.at.0 (omega (arith, c.requires.payload_bound_2, whole)) c.loop-k.out c.loop-k.next.0 c.loop-k.k c.loop-k.invariant
    (omega (arith, c.loop-k-test.false))) in
    record { out_after = p.0; result_value = p.1 }
