-- What a record's arrays hold, as its content has it.
use mathlib.Core.Path.{◌≡◌, refl}
use mathlib.Core.List.{List, [], ◌∷◌, map}
use Prim.Native.Nat.{ℕ, zero, suc, ◌<◌}
use native.Mathlib.Omega.{arith}
use lib.Dec.{eqb}
use lib.ListN.{length, take, get_or}
use borrow.Author.Tests.{ne_eqb}
use Rattle.bpg_format.specs.Limits.{max_entries}
use Rattle.bpg_format.specs.declared.record.Entry.{Entry}
use Rattle.bpg_format.specs.declared.record.Header.{Header}
use Rattle.bpg_format.specs.Zero.{zero_header}
use Rattle.bpg_format.specs.Content.{is_empty}
use Rattle.bpg_format.specs.Records.{extension_of}

-- the default of an element in range is never read
within : {A : Type 0} (l : List A) (k : ℕ) (d e : A) → k < length l → get_or l k d ≡ get_or l k e
within [] k d e h = absurd (omega arith)
within (x ∷ l) zero d e h = refl
within (x ∷ l) (suc k) d e h = within l k d e (omega arith)

-- whatever the code would read past the end
pub header_at : (d : Header) (l : List Header) (k : ℕ) → length l ≡ 2 → k < 2 → get_or l k d ≡ get_or l k zero_header
header_at d l k m h = within l k d zero_header (omega arith)

pub none-used : (source : List ℕ) (es : List Entry) (n : ℕ) → length es ≡ max_entries → eqb n 0 ≡ is_empty (map (extension_of source) (take n es))
none-used source [] n h = absurd (omega arith)
none-used source (e ∷ es) zero h = refl
none-used source (e ∷ es) (suc n) h = ne_eqb (suc n) 0 λ z. omega (arith, z)
