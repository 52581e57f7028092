-- The partitions of files A and C of the examples: `proofs/Examples` proves them by computation.
use Rattle.std.specs.Prelude.{◌≡◌}
use Rattle.bpg_format.specs.Examples.{file_a, file_c}
use Rattle.bpg_partition.specs.Partitions.{counts, partition_answer}

pub record Examples : Type 0 where
  -- a head of 10 bytes, a HEVC header of 4, data of 2
  pub a : partition_answer file_a ≡ counts 10 0 0 4 2
  -- the extension length too, an entry head of 2 and a payload of 3
  pub c : partition_answer file_c ≡ counts 11 2 3 4 2
