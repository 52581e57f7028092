use Rattle.std.proofs.Common.{ap}
use Rattle.bpg_format.proofs.Typed.{entries-count}
use Rattle.bpg_record_entries.proofs.UsedLaws.{used_all}
use Rattle.bpg_partition.specs.Partitions.{payload_bytes}
use Rattle.bpg_partition.proofs.RecordPayloads.{payloads-sum}
use Rattle.bpg_partition.proofs.payloads.payload_bytes.Goals as goal

pub returns : goal.returns
returns c =
    rw (c.total.ensures, payloads-sum)
    (ap payload_bytes (used_all c.args.«record».entries _ c.args.«record».entry_count (search entries-count) c.min-used.ensures))
