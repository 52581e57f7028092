use Rattle.std.proofs.Common.{List, length, ap, arith}
use Rattle.bpg_format.specs.declared.record.Entry.{Entry}
use Rattle.bpg_writer.proofs.PutLaws.{put-none}
use Rattle.bpg_writer.proofs.PartLaws.{bytes_of, entry-fits, entry-put}
use Rattle.bpg_writer.proofs.emit.entries.Goals as goal

pub loop-one-init : goal.loop-one-init
loop-one-init c = put-none c.args.out.now c.args.at.0 (omega (arith, c.requires.source_bound))

pub entry-next-requires-clause-bound : goal.entry-next-requires-clause-bound
entry-next-requires-clause-bound c =
    entry-fits c.args.source.now c.entries-used.result.now c.args.out.now c.args.at.0
    (omega (arith, c.requires.source_bound, ap (λ (l : List Entry). length (bytes_of c.args.source.now l)) c.entries-used.ensures))
    c.loop-one.one-index c.loop-one-test.true c.loop-one.invariant

pub loop-one-preserved : goal.loop-one-preserved
loop-one-preserved c =
    entry-put c.args.source.now c.entries-used.result.now c.args.out.now c.args.at.0
    (omega (arith, c.requires.source_bound, ap (λ (l : List Entry). length (bytes_of c.args.source.now l)) c.entries-used.ensures))
    c.loop-one.one-index c.loop-one-test.true c.loop-one.invariant (c.entry-next.ensures.out_after, c.entry-next.ensures.result_value)
