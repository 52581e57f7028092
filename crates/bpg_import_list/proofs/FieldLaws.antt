-- What the parts of a list give: the parts of the record whose numbers they are.
use mathlib.Core.Path.{◌≡◌, refl, sym, ap, ap₂, ◌∙◌}
use mathlib.Core.Bool.{Bool, true, false}
use mathlib.Core.List.{List, [], ◌∷◌, ◌++◌, map, append_assoc}
use Prim.Native.Nat.{ℕ, zero, suc, ◌+◌, ◌*◌, ◌-◌, ◌%◌, ◌≤◌}
use native.Mathlib.Nat.{add-zero, add_assoc, mod-eq_of_lt}
use native.Mathlib.Omega.{arith}
use lib.Dec.{eqb}
use lib.ListN.{length, take, drop, get_or, replicate, length-append, take-append-drop, length-drop}
use lib.Seq.{length-take-le, get_or-drop, drop-append_seam, drop-drop}
use Rattle.bpg_codec.specs.Bits.{bit}
use Rattle.bpg_codec.specs.Lawful.{All}
use Rattle.bpg_codec.proofs.Lists.{by_length}
use Rattle.bpg_format.specs.Limits.{max_entries}
use Rattle.bpg_format.specs.declared.record.Entry.{Entry}
use Rattle.bpg_format.specs.declared.record.Header.{Header}
use Rattle.bpg_format.specs.Zero.{zero_entry}
use Rattle.bpg_format.specs.Records.{pad_entries}
use Rattle.bpg_export_list.specs.Numbers.{alpha_start, color_start, entry_numbers, entries_numbers, header_numbers, headers_numbers}
use Rattle.bpg_export_list.proofs.NumberLaws.{header-length}
use Rattle.bpg_import_list.specs.Fields.{list_entries, range_flags_at, header_at}
use Rattle.bpg_import_list.specs.Typing.{OfBits, TypedHeader}

pub flag : (t : Bool) → eqb (bit t % 2) 1 ≡ t
flag true = refl
flag false = refl

-- ---- what stands at n is what stands at the start of the rest

module _ (l : List ℕ) (n : ℕ) where
  pub number-from : (m : List ℕ) (i : ℕ) → drop n l ≡ m → get_or l (n + i) 0 ≡ get_or m i 0
  number-from m i e = sym (get_or-drop n l i 0) ∙ ap (λ (x : List ℕ). get_or x i 0) e

  flags-from : range_flags_at l n ≡ range_flags_at (drop n l) 0
  unfolding range_flags_at
  flags-from = simp (get_or-drop, add-zero)

  pub header-from : header_at l n ≡ header_at (drop n l) 0
  unfolding header_at range_flags_at
  header-from = simp (get_or-drop, add_assoc, add-zero)

pub entries_from : (l : List ℕ) (n i m : ℕ) → list_entries l (n + i) m ≡ list_entries (drop n l) i m
unfolding list_entries
entries_from l n i zero = refl
entries_from l n i (suc m) = let ih = entries_from l n (i + 4) m in simp (get_or-drop, add_assoc, ih)

-- ---- the parts of a list give the parts of the record

pub entries-back : (es : List Entry) (rest : List ℕ) → All (λ (e : Entry). OfBits 32 (entry_numbers e)) es → list_entries (entries_numbers es ++ rest) 0 (length es) ≡ es
unfolding list_entries entries_numbers
entries-back [] rest a = refl
entries-back (e ∷ es) rest a =
    let tail = entries_from (entries_numbers (e ∷ es) ++ rest) 4 0 (length es) ∙ entries-back es rest a.1 in
    search (mod-eq_of_lt, tail)

zeros : (l : List Entry) → All (λ (e : Entry). e ≡ zero_entry) l → l ≡ replicate (length l) zero_entry
zeros [] a = refl
zeros (e ∷ l) a = ap₂ (λ (x : Entry) (m : List Entry). x ∷ m) a.0 (zeros l a.1)

-- the entries in use, with the others zero
pub padded : (n : ℕ) (es : List Entry) → n ≤ max_entries → length es ≡ max_entries → All (λ (e : Entry). e ≡ zero_entry) (drop n es) → pad_entries (take n es) ≡ es
padded n es h k a =
    let t = length-take-le n es (omega arith) in
    let m : max_entries - length (take n es) ≡ length (drop n es) = omega (arith, length-drop n es) in
    ap (λ (i : ℕ). take n es ++ replicate i zero_entry) m ∙ ap (λ (l : List Entry). take n es ++ l) (sym (zeros (drop n es) a)) ∙ take-append-drop n es

flags-back : (l : List Bool) (rest : List ℕ) → length l ≡ 9 → range_flags_at (map bit l ++ rest) 0 ≡ l
unfolding range_flags_at
flags-back l rest = by_length 9 (λ m. range_flags_at (map bit m ++ rest) 0 ≡ m) (λ a b c d e f g h i. simp flag) l

header-back : (h : Header) (rest : List ℕ) → TypedHeader h → header_at (header_numbers h ++ rest) 0 ≡ h
unfolding header_at header_numbers
header-back h rest t =
    let flags = flags-from (header_numbers h ++ rest) 16 ∙ flags-back h.range_flags rest t.nine in
    search (mod-eq_of_lt, flag, flags)

header-there : (l : List ℕ) (n : ℕ) (h : Header) (rest : List ℕ) → TypedHeader h → drop n l ≡ header_numbers h ++ rest → header_at l n ≡ h
header-there l n h rest t e = header-from l n ∙ ap (λ (x : List ℕ). header_at x 0) e ∙ header-back h rest t

pub headers-length : (hs : List Header) → All TypedHeader hs → length (headers_numbers hs) ≡ 25 * length hs
unfolding headers_numbers
headers-length [] t = refl
headers-length (h ∷ hs) t = omega (arith, length-append (header_numbers h) (headers_numbers hs), header-length h t.0.nine, headers-length hs t.1)

pub past : (a b l : List ℕ) (n : ℕ) → l ≡ a ++ b → length a ≡ n → drop n l ≡ b
past a b l n e k = ap₂ (λ (m : ℕ) (x : List ℕ). drop m x) (sym k) e ∙ drop-append_seam a b

pub headers-back : (hs : List Header) (l rest : List ℕ) → length hs ≡ 2 → All TypedHeader hs → drop alpha_start l ≡ headers_numbers hs ++ rest
    → (header_at l alpha_start ∷ header_at l color_start ∷ []) ≡ hs
unfolding headers_numbers
headers-back hs l rest =
    by_length 2 (λ m. All TypedHeader m → drop alpha_start l ≡ headers_numbers m ++ rest → (header_at l alpha_start ∷ header_at l color_start ∷ []) ≡ m)
    (λ a b t e.
    let f = e ∙ append_assoc (header_numbers a) (header_numbers b ++ []) rest in
    let g : drop 25 (drop alpha_start l) ≡ header_numbers b ++ rest = past (header_numbers a) ((header_numbers b ++ []) ++ rest) (drop alpha_start l) 25 f
    (header-length a t.0.nine) ∙ append_assoc (header_numbers b) [] rest in
    ap₂ (λ (x y : Header). x ∷ y ∷ []) (header-there l alpha_start a _ t.0 f) (header-there l color_start b _ t.1.0 (sym (drop-drop 25 alpha_start l) ∙ g))) hs
