use Rattle.std.proofs.Common.{◌≡◌, length}
use Rattle.bpg_format.proofs.Typed.{flags-count}
use Rattle.bpg_export_list.specs.Numbers.{header_numbers}
use Rattle.bpg_export_list.proofs.NumberLaws.{flag-number, nine-flags, header-length}
use Rattle.bpg_export_list.proofs.list.header_numbers.Goals as goal

pub returns : goal.returns
unfolding header_numbers
returns c =
    let h = c.args.header in
    let nine : length h.range_flags ≡ 9 = search flags-count in
    record { value = rw (nine-flags h.range_flags nine) (simp flag-number); header_value = header-length h nine }
