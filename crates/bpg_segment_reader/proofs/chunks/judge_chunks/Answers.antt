use Rattle.std.proofs.Common.{drop, sym, arith, ◌∙◌}
use Rattle.bpg_segment_reader.proofs.ChunkLaws.{walked_none, walked_end, walked_over, walked-none-there, walked-short, walked_more, icc-is}
use Rattle.bpg_segment_reader.proofs.chunks.judge_chunks.Goals as goal

pub loop-k-init : goal.loop-k-init
loop-k-init c = (c.requires, omega arith, walked_none c.args.run.now c.count_at-total.result c.args.at)

pub returns-then-size-eq0 : goal.returns-then-size-eq0
returns-then-size-eq0 c =
    icc-is (drop c.args.at c.args.run.now) c.count_at-total.result c.count_at-total.ensures
    ∙ walked-none-there c.args.run.now c.count_at-total.result c.args.at c.loop-k.p c.loop-k.length c.loop-k.k c.loop-k.invariant.2 c.chunk_at-chunk.result
    c.chunk_at-chunk.ensures c.loop-k-test.true c.if-size-eq0.true

pub returns-then-not-is_full : goal.returns-then-not-is_full
returns-then-not-is_full c =
    icc-is (drop c.args.at c.args.run.now) c.count_at-total.result c.count_at-total.ensures
    ∙ walked-short c.args.run.now c.count_at-total.result c.args.at c.loop-k.p c.loop-k.length c.loop-k.k c.loop-k.invariant.2 c.chunk_at-chunk.result
    c.chunk_at-chunk.ensures c.loop-k-test.true c.if-size-eq0.false (sym c.if-not-is_full.ensures)

pub loop-k-preserved : goal.loop-k-preserved
loop-k-preserved c =
    let f = c.chunk_at-chunk.ensures in (
      f.inside,
      omega (arith, f.from, f.ordered, c.loop-k.invariant.1),
      walked_more c.args.run.now c.count_at-total.result c.args.at c.loop-k.p c.loop-k.length c.loop-k.k c.loop-k.invariant.2 c.chunk_at-chunk.result
          c.chunk_at-chunk.ensures c.loop-k-test.true c.if-size-eq0.false (sym c.if-not-is_full.ensures),
    )

pub returns-then-p-run : goal.returns-then-p-run
returns-then-p-run c =
    icc-is (drop c.args.at c.args.run.now) c.count_at-total.result c.count_at-total.ensures
    ∙ walked_end c.args.run.now c.count_at-total.result c.args.at c.loop-k.p c.loop-k.length c.loop-k.k c.loop-k.invariant.2
    (omega (arith, c.loop-k-test.false)) c.if-p-run.true

pub returns-else-p-run : goal.returns-else-p-run
returns-else-p-run c =
    icc-is (drop c.args.at c.args.run.now) c.count_at-total.result c.count_at-total.ensures
    ∙ walked_over c.args.run.now c.count_at-total.result c.args.at c.loop-k.p c.loop-k.length c.loop-k.k c.loop-k.invariant.2
    (omega (arith, c.loop-k-test.false)) c.loop-k.invariant.0 c.if-p-run.false
