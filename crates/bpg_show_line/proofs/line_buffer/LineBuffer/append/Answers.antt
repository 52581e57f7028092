use Rattle.std.proofs.Common.{ℕ, List, ap₂}
use Rattle.bpg_show_line.specs.declared.line_buffer.LineBuffer.{LineBuffer}
use Rattle.bpg_show_line.specs.LineBuffer.{appended}
use Rattle.bpg_show_line.proofs.line_buffer.LineBuffer.append.Goals as goal

pub returns : goal.returns
unfolding appended
returns c =
    let e = c.write.ensures in
    ap₂ {C = LineBuffer} (λ (b : List ℕ) (n : ℕ). record { bytes = b; len = n }) e.out_after e.result_value
