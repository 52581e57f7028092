use Rattle.std.proofs.Common.{refl, ap, ◌∙◌}
use Rattle.bpg_export_list.specs.Numbers.{alpha_start, color_start, data_start}
use Rattle.bpg_import_list.specs.Calls.{header_fields, range_fields, within, fixed_fits}
use Rattle.bpg_import_list.proofs.ListLaws.{to_end}
use Rattle.bpg_import_list.proofs.check.fixed_fits.Goals as goal

pub returns : goal.returns
unfolding fixed_fits
returns c =
    let l = c.args.numbers.now in
    let head = c.within-head.ensures in
    let alpha = c.within-alpha.ensures ∙ ap (within header_fields) (to_end l alpha_start) in
    let color = c.within-color.ensures ∙ ap (within header_fields) (to_end l color_start) in
    let data-range = c.within-data.ensures ∙ ap (within range_fields) (to_end l data_start) in
    rw (head, alpha, color, data-range) refl
