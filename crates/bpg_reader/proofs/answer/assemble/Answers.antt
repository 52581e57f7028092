-- `answer::assemble` meets its contract.
use Rattle.bpg_reader.proofs.CodedSize.{coded-allowed}
use Rattle.bpg_reader.proofs.answer.assemble.Goals as goal

pub returns : goal.returns
returns c =
    let coded = coded-allowed c.args.found.rest.headers.value.color in
    let small = c.requires.log2_min_luma_coding_block_size_minus3_bound in
    rw (coded _ _ small c.coded_size.ensures, coded _ _ small c.coded_size-2.ensures, c.record.ensures)
