-- What a buffer says of a header.
use mathlib.Core.Path.{◌≡◌, sym, ap, ◌∙◌}
use mathlib.Core.Bool.{Bool, false, true≢false}
use mathlib.Core.List.{List}
use Prim.Native.Nat.{ℕ, ◌≤◌}
use native.Mathlib.Omega.{arith}
use lib.ListN.{length}
use Rattle.bpg_write_bits.specs.declared.BitBuffer.{BitBuffer}
use Rattle.bpg_write_bits.specs.BitBuffer.{gathered}
use Rattle.bpg_write_bits.proofs.BitBufferLaws.{gathered-most}
use Rattle.bpg_format.specs.declared.record.Header.{Header}
use Rattle.bpg_format.specs.Rules.{HevcRules}
use Rattle.bpg_format.specs.Syntax.{header_bits}
use Rattle.bpg_write_plan.specs.FileParts.{Encoded}

-- of an absent header nothing is said
pub absent : {t : Bool} {h : Header} {b : BitBuffer} → t ≡ false → Encoded t h b
absent e = record { is = λ there. absurd (true≢false (sym there ∙ e)); short = λ there. absurd (true≢false (sym there ∙ e)) }

pub present : {t : Bool} {h : Header} {b : BitBuffer} → b ≡ gathered (header_bits h) → ((depth : ℕ) → HevcRules depth h → length (header_bits h) ≤ 64) → Encoded t h b
present e s = record { is = λ _. e; short = λ _. s }

pub few-bits : (l : List Bool) {b : BitBuffer} → b ≡ gathered l → b.len.0 ≤ 65
few-bits l e = omega (arith, ap (λ (b : BitBuffer). b.len.0) e, gathered-most l)
