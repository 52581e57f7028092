-- `fixed::put_fixed` meets its contract: the parts in a row are the numbers.
use Rattle.std.proofs.Common.{refl, arith}
use Rattle.bpg_reader.proofs.CodedSize.{coded-allowed}
use Rattle.bpg_export_list.specs.Numbers.{header_numbers}
use Rattle.bpg_export_list.proofs.NumberLaws.{Filled, filled_next}
use Rattle.bpg_read_list.specs.Surveyed.{first_numbers}
use Rattle.bpg_read_list.proofs.FixedLaws.{last, fixed-written}
use Rattle.bpg_read_list.proofs.fixed.put_fixed.Goals as goal

pub returns : goal.returns
returns c =
    let found = c.args.found in
    let len = c.args.len in
    let headers = found.rest.headers.value in
    let coded = coded-allowed headers.color in
    let small = c.requires.log2_min_luma_coding_block_size_minus3_bound in
    let first : Filled c.args.out.now 0 14 (first_numbers found.head found.rest.block.animation) _ = record { is = c.put_first.ensures; ends = refl } in
    let alpha = filled_next first (header_numbers headers.alpha) (c.put_header.ensures.out_after, c.put_header.ensures.header_value) (omega (arith, c.requires.fixed_length_bound)) in
    let color = filled_next alpha (header_numbers headers.color) (c.put_header-2.ensures.out_after, c.put_header-2.ensures.header_value) (omega (arith, c.requires.fixed_length_bound)) in
    let all = fixed-written len found _ _ (coded _ _ small c.coded_size-coded_width.ensures) (coded _ _ small c.coded_size-coded_height.ensures)
    (filled_next color (last len found _ _) (c.put_last.ensures, refl) c.requires.fixed_length_bound) in
    record { out_after = all.0; found_value = all.1 }
