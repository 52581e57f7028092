use Rattle.std.proofs.Common.{◌≡◌, ℕ, suc, ◌+◌, ◌<◌, Bool, false, List, [], ◌∷◌, length, take, get_or, arith}
use Rattle.std.proofs.Math.Seq.{take-suc, take_all}
use borrow.Author.Tests.{not-true, not-false}
use Rattle.bpg_format.proofs.Typed.{flags-count}
use Rattle.bpg_write_bits.specs.declared.BitBuffer.{BitBuffer}
use Rattle.bpg_write_header.specs.Adding.{Added}
use Rattle.bpg_write_header.proofs.AddingLaws.{added, added_then, left_out, put_in}
use Rattle.bpg_write_header.proofs.fields.add_range_flags.Goals as goal

-- one flag more
more : {b c d : BitBuffer} (flags : List Bool) (k : ℕ) → k < length flags → Added b (take k flags) c → Added c (get_or flags k false ∷ []) d
    → Added b (take (k + 1) flags) d
more flags k h p q = let n : k + 1 ≡ suc k = omega arith in rw (n, take-suc flags k false h) (added_then p q)

pub returns-then-not-h : goal.returns-then-not-h
returns-then-not-h c = left_out _ (not-true _ c.if-not-h.true)

pub loop-flag-preserved : goal.loop-flag-preserved
loop-flag-preserved c =
    let nine : length c.args.h.range_flags ≡ 9 = search flags-count in
    more c.args.h.range_flags c.loop-flag.flag-index (omega arith) c.loop-flag.invariant (added c.append_flag-all.ensures)

pub returns : goal.returns
returns c =
    let l = c.loop-flag in
    let nine : length c.args.h.range_flags ≡ 9 = search flags-count in
    put_in (not-false _ c.if-not-h.false) (rw (take_all l.flag-index c.args.h.range_flags (omega arith)) at l.invariant)
