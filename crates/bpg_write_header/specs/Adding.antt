-- Adding bits to a buffer.
use Rattle.std.specs.Prelude.{◌≡◌, Bool, List, ◌++◌}
use Rattle.bpg_bits.specs.BitNumbers.{exp_golomb_bits}
use Rattle.bpg_write_bits.specs.BitBuffer.{gathered}
use Rattle.bpg_write_bits.specs.declared.BitBuffer.{BitBuffer}
use Rattle.bpg_format.specs.declared.record.Header.{Header}

-- where b holds gathered bits, r holds them and these after them
pub record Added (b : BitBuffer) (l : List Bool) (r : BitBuffer) : Type 0 where
  pub gathers : (before : List Bool) → b ≡ gathered before → r ≡ gathered (before ++ l)

-- the first five fields of a header
abbrev pub size_bits : Header → List Bool
size_bits h =
    exp_golomb_bits h.log2_min_luma_coding_block_size_minus3
    ++ (exp_golomb_bits h.log2_diff_max_min_luma_coding_block_size
    ++ (exp_golomb_bits h.log2_min_transform_block_size_minus2
    ++ (exp_golomb_bits h.log2_diff_max_min_transform_block_size
    ++ exp_golomb_bits h.max_transform_hierarchy_depth_intra)))
