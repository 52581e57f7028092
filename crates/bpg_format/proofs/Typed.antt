-- What the types give of a value of a program: the lengths of its arrays, and that its numbers fit. A function's context has `good`, which holds of each parameter.
use mathlib.Core.Path.{◌≡◌, refl, sym, ◌∙◌}
use mathlib.Core.List.{List, [], ◌∷◌, map}
use Prim.Native.Nat.{ℕ, zero, suc, ◌^◌, ◌<◌}
use native.Mathlib.Omega.{arith}
use lib.ListN.{length, get_or, length-map}
use mir.Val.{Val, WT}
use denote.Shadow.{shadow}
use denote.Array.{each}
use denote.Laws.{Is}
use denote.RattleType.{RattleType}
use denote.Struct.Laws.{val}
use Rattle.bpg_codec.specs.Lawful.{All}
use Rattle.bpg_format.specs.Limits.{max_entries}
use Rattle.bpg_format.specs.declared.record.Entry.{Entry}
use Rattle.bpg_format.specs.declared.record.Header.{Header}
use Rattle.bpg_format.specs.declared.record.Record.{Record}
use Rattle.bpg_format.specs.Zero.{zero_header}
use Rattle.bpg_format.specs.Write.{Typed}
use Rattle.bpg_format.specs.contracts.record.Entry as entry-type
use Rattle.bpg_format.specs.contracts.record.Header as header-type
use Rattle.bpg_format.specs.contracts.record.Record as record-type
use Rattle.bpg_format.proofs.record.Record.TheLaws as record-laws

unmapped : {X Y : Type 0} (f : X → Y) (l : List X) (n : ℕ) → length (map f l) ≡ n → length l ≡ n
unmapped f l n e = sym (length-map l f) ∙ e

pub entries-count : (r : Record) {vs : List Val} → Is record-type.the_row r vs → length r.entries ≡ max_entries
entries-count r g = search unmapped

pub headers-count : (r : Record) {vs : List Val} → Is record-type.the_row r vs → length r.headers ≡ 2
headers-count r g = search unmapped

pub flags-count : (h : Header) {vs : List Val} → Is header-type.the_row h vs → length h.range_flags ≡ 9
flags-count h g = search unmapped

-- what the row of an element says, of each element of an array
module _ (R : RattleType) (P : R.Denot → Type 0) (law : (x : R.Denot) (vs : List Val) → Is R x vs → P x) where
  each_keeps : (xs : List R.Denot) (us : List Val) → shadow (each _ R.own_val xs us) → All P xs
  each_keeps [] us e = tt
  each_keeps (x ∷ xs) [] e = absurd e
  each_keeps (x ∷ xs) (u ∷ us) e = (law x (u ∷ []) e.0, each_keeps xs us e.1)

abbrev NineFlags : Header → Type 0
NineFlags h = length h.range_flags ≡ 9

header-flags : (r : Record) {vs : List Val} → Is record-type.the_row r vs → All NineFlags r.headers
header-flags r g = search (each_keeps header-type.the_row NineFlags λ h vs k. flags-count h k)

header-nine : (hs : List Header) (i : ℕ) → All NineFlags hs → NineFlags (get_or hs i zero_header)
header-nine [] i a = refl
header-nine (h ∷ hs) zero a = a.0
header-nine (h ∷ hs) (suc i) a = header-nine hs i a.1

abbrev TagFits : Entry → Type 0
TagFits e = e.tag < 2 ^ 32

entry-tags : (r : Record) {vs : List Val} → Is record-type.the_row r vs → All TagFits r.entries
entry-tags r g = search (each_keeps entry-type.the_row TagFits λ e vs k. omega arith)

-- a record of a program is typed
pub typed : (r : Record) {vs : List Val} → Is record-type.the_row r vs → Typed r
typed r g =
    record {
      width = omega arith;
      height = omega arith;
      tags = entry-tags r g;
      alpha-nine = header-nine r.headers 0 (header-flags r g);
      color-nine = header-nine r.headers 1 (header-flags r g);
    }

-- the numbers of the data's range, where a function knows that a record is one of its type: `c.struct_known.given`
pub data-fits : (r : Record) → WT (val record-type.the_type record-laws.the_laws r) → (r.«data».start < 2 ^ 32) × (r.«data».length < 2 ^ 32)
data-fits r k = omega arith
