-- The laws of adding bits to a buffer: one part after another, no part, a part that a flag leaves out.
use mathlib.Core.Path.{◌≡◌, sym, ap, ◌∙◌}
use mathlib.Core.Bool.{Bool, true, false}
use mathlib.Core.List.{List, [], ◌++◌, append_assoc, append-nil}
use Prim.Native.Nat.{ℕ}
use Rattle.bpg_codec.specs.Bits.{bits}
use Rattle.bpg_codec.specs.Select.{select}
use Rattle.bpg_codec.proofs.Select.{select-true, select-false}
use Rattle.bpg_write_bits.specs.declared.BitBuffer.{BitBuffer}
use Rattle.bpg_write_bits.specs.BitBuffer.{appended, gathered}
use Rattle.bpg_write_bits.proofs.BitBufferLaws.{gathered-append}
use Rattle.bpg_write_header.specs.Adding.{Added}

pub added : {b r : BitBuffer} {l : List Bool} → r ≡ appended b l → Added b l r
added {l = l} e = record { gathers = λ m h. e ∙ ap (λ (x : BitBuffer). appended x l) h ∙ gathered-append m l }

-- the bits of a number that was converted first
pub added-bits : {b r : BitBuffer} (n : ℕ) {v w : ℕ} → r ≡ appended b (bits n w) → w ≡ v → Added b (bits n v) r
added-bits {b} {r} n e f = added (e ∙ ap (λ (k : ℕ). appended b (bits n k)) f)

pub added_then : {b c d : BitBuffer} {l m : List Bool} → Added b l c → Added c m d → Added b (l ++ m) d
added_then {l = l} {m = m} p q = record { gathers = λ k h. q.gathers (k ++ l) (p.gathers k h) ∙ ap gathered (append_assoc k l m) }

pub added-nothing : (b : BitBuffer) → Added b [] b
added-nothing b = record { gathers = λ m h. h ∙ ap gathered (sym (append-nil m)) }

pub left_out : {b : BitBuffer} {flag : Bool} (l : List Bool) → flag ≡ false → Added b (select flag l []) b
left_out {b} l e = rw (select-false l [] e) (added-nothing b)

pub put_in : {b r : BitBuffer} {flag : Bool} {l : List Bool} → flag ≡ true → Added b l r → Added b (select flag l []) r
put_in {l = l} e a = rw (select-true l [] e) a
