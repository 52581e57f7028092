-- The fields that are left give what all of them do, and their values are those of the start.
use Rattle.std.proofs.Common.{◌≡◌, ◌-◌, ◌≤◌}
use Rattle.bpg_bits.specs.BitNumbers.{region_bits}
use Rattle.bpg_next_bits.specs.NextBits.{InWord}
use Rattle.bpg_read_fields.specs.Table.{no_values, values_from}
use Rattle.bpg_read_fields.proofs.GroupLaws.{Before}
use Rattle.bpg_read_fields.proofs.values.read.Given as goal

abbrev pub invariant-loop-k : goal.invariant-loop-k
invariant-loop-k l = record {
  k_small : l.k ≤ 25;
  before : Before l.k l.values;
  held : InWord l.region l.next l.bits.word l.bits.count;
  left : values_from (region_bits l.region) (25 - l.k) l.values l.next ≡ values_from (region_bits l.region) 25 no_values l.fn.at.0;
}

abbrev pub decreases-loop-k : goal.decreases-loop-k
decreases-loop-k l = 25 - l.k
