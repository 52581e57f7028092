use Rattle.std.proofs.Common.{arith}
use Rattle.bpg_writer.proofs.EmitLaws.{coded-small, block-fits, last-fits, all-written}
use Rattle.bpg_writer.proofs.file.emit_file.Goals as goal

pub overflow_cast-data_length : goal.overflow_cast-data_length
overflow_cast-data_length c =
    omega (arith, coded-small c.args.«record».now c.args.source.now c.args.plan.now c.requires.ready c.args.out.now c.requires.source_in_bounds _ c.data_length-data_length.ensures)

pub block-q-requires-clause-source_bound : goal.block-q-requires-clause-source_bound
block-q-requires-clause-source_bound c =
    block-fits c.args.«record».now c.args.source.now c.args.plan.now c.requires.ready c.args.out.now c.requires.source_in_bounds _ c.data_length-data_length.ensures
    (c.head-p.ensures.out_after, c.head-p.ensures.result_value)

pub headers_and_data-requires-clause-data_bound_2 : goal.headers_and_data-requires-clause-data_bound_2
headers_and_data-requires-clause-data_bound_2 c =
    last-fits c.args.«record».now c.args.source.now c.args.plan.now c.requires.ready c.args.out.now c.requires.source_in_bounds _ c.data_length-data_length.ensures
    (c.head-p.ensures.out_after, c.head-p.ensures.result_value) (c.block-q.ensures.out_after, c.block-q.ensures.result_value) c.has_alpha-plane.result c.has_alpha-plane.ensures

pub returns : goal.returns
returns c =
    all-written c.args.«record».now c.args.source.now c.args.plan.now c.requires.ready c.args.out.now c.requires.source_in_bounds _ c.data_length-data_length.ensures
    (c.head-p.ensures.out_after, c.head-p.ensures.result_value) (c.block-q.ensures.out_after, c.block-q.ensures.result_value) c.has_alpha-plane.result c.has_alpha-plane.ensures
    (c.headers_and_data.ensures.out_after, c.headers_and_data.ensures.result_value)
