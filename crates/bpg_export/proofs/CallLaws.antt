-- What the call for an entry answers in each case.
use mathlib.Core.Path.{◌≡◌, refl, ap, ap₂, ◌∙◌}
use mathlib.Core.Bool.{Bool, true, false}
use mathlib.Core.List.{List}
use Prim.Native.Nat.{ℕ}
use lib.Dec.{ltb}
use Rattle.bpg_codec.specs.Select.{select}
use Rattle.bpg_format.specs.declared.record.Entry.{Entry}
use Rattle.bpg_format.specs.Zero.{zero_entry}
use Rattle.bpg_format.specs.Records.{read_file}
use Rattle.bpg_format.specs.Parts.{entry_of}
use Rattle.std.specs.Prelude.{Option, Some, None, is_some, unwrap_or}
use Rattle.bpg_parts.specs.Entries.{entry_answer}
use Rattle.bpg_parts.proofs.PartLaws.{entry_in-range}

found-when : (t : Bool) (e : Entry) → is_some (select t (Some e) None) ≡ t
unfolding select
found-when true e = refl
found-when false e = refl

-- whether there is one, its tag, its range and its tag offset; y is the zero entry where there is none
pub answered : (f : List ℕ) (k : ℕ) (x : Option Entry) → x ≡ entry_answer f k → (z y : Entry) → z ≡ zero_entry → y ≡ unwrap_or x z
    → (is_some x ≡ ltb k (read_file f).«record».entry_count) × (y ≡ entry_of f k)
answered f k x e z y d u =
    (ap is_some e ∙ found-when (ltb k (read_file f).«record».entry_count) (entry_of f k), u ∙ ap₂ unwrap_or e d ∙ entry_in-range f k)
