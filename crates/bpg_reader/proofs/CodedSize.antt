-- A coded size, for a header whose smallest coding block is allowed.
use mathlib.Core.Path.{◌≡◌, ◌∙◌}
use Prim.Native.Nat.{ℕ, ◌+◌, ◌≤◌}
use native.Mathlib.Omega.{arith}
use borrow.Author.Tests.{le-ltb}
use Rattle.bpg_codec.proofs.Select.{select-false}
use Rattle.bpg_format.specs.declared.record.Header.{Header}
use Rattle.bpg_format.specs.Records.{coded_size}
use Rattle.bpg_reader.specs.Assembled.{rounded_size}

pub coded-allowed : (h : Header) (size r : ℕ) → h.log2_min_luma_coding_block_size_minus3 ≤ 3
    → r ≡ rounded_size size (h.log2_min_luma_coding_block_size_minus3 + 3) → r ≡ coded_size h size
coded-allowed h size r k e = e ∙ select-false _ _ (le-ltb 6 (h.log2_min_luma_coding_block_size_minus3 + 3) (omega arith))
