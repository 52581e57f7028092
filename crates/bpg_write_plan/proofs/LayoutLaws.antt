-- The size of an extension block, entry by entry.
use mathlib.Core.Path.{◌≡◌, ap, ◌∙◌}
use mathlib.Core.List.{List, [], ◌∷◌, ◌++◌}
use Prim.Native.Nat.{ℕ, suc, ◌+◌, ◌<◌}
use native.Mathlib.Omega.{arith}
use lib.ListN.{length, take, get_or}
use lib.Seq.{take-suc}
use Rattle.bpg_format.specs.declared.record.Entry.{Entry}
use Rattle.bpg_format.specs.Zero.{zero_entry}
use Rattle.bpg_write_plan.specs.Layouts.{size_of, entries_size}

entries-append : (es fs : List Entry) → entries_size (es ++ fs) ≡ entries_size es + entries_size fs
entries-append [] fs = omega arith
entries-append (e ∷ es) fs = omega (arith, entries-append es fs)

-- one entry more
pub entries_next : (es : List Entry) (k : ℕ) → k < length es
    → entries_size (take (k + 1) es)
    ≡ entries_size (take k es) + (size_of (get_or es k zero_entry).tag + size_of (get_or es k zero_entry).payload.length + (get_or es k zero_entry).payload.length)
entries_next es k h =
    let n : k + 1 ≡ suc k = omega arith in
    let e = get_or es k zero_entry in
    ap (λ (m : ℕ). entries_size (take m es)) n ∙ ap entries_size (take-suc es k zero_entry h) ∙ entries-append (take k es) (e ∷ []) ∙ omega arith
