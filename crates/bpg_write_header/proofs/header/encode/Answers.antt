-- The groups of fields are added to an empty buffer, one after another.
use Rattle.std.proofs.Common.{◌≡◌, length, arith}
use Rattle.bpg_format.proofs.Typed.{flags-count}
use Rattle.bpg_write_header.proofs.AddingLaws.{added, added_then}
use Rattle.bpg_write_header.proofs.HeaderLaws.{header-short, header-gathered}
use Rattle.bpg_write_header.proofs.header.encode.Goals as goal

pub returns-clause-value : goal.returns-clause-value
returns-clause-value c =
    header-gathered c.args.header c.new.ensures
    (added_then c.add_sizes.ensures
    (added_then (added c.append_flag.ensures)
    (added_then (added c.append_flag-sizes.ensures)
    (added_then c.add_pcm.ensures
    (added_then (added c.append_flag-2.ensures)
    (added_then (added c.append_flag-pcm.ensures)
    (added_then c.add_sps-sps.ensures c.add_range_flags.ensures)))))))

pub returns-clause-by_index : goal.returns-clause-by_index
returns-clause-by_index c =
    let nine : length c.args.header.range_flags ≡ 9 = search flags-count in
    λ depth rules. omega (arith, header-short depth c.args.header rules nine)
