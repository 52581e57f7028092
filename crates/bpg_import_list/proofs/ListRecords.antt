-- A list that is not refused is the list of the record that it gives.
use mathlib.Core.Path.{◌≡◌, refl, sym, ap, ap₂, ◌∙◌, subst}
use mathlib.Core.Bool.{true}
use mathlib.Core.List.{List, [], ◌∷◌, ◌++◌, append_assoc, append-nil}
use Prim.Native.Nat.{ℕ, zero, suc, ◌+◌, ◌*◌, ◌-◌, ◌%◌, ◌^◌, ◌≤◌, ◌<◌}
use native.Mathlib.Nat.{add-zero, mod-eq_of_lt}
use native.Mathlib.Omega.{arith}
use lib.Dec.{leb}
use lib.ListN.{length, take, drop, get_or, replicate, take-append-drop, length-drop}
use lib.Seq.{get_or-drop, take-append_seam, drop-append_seam, drop-drop}
use Rattle.bpg_codec.specs.Lawful.{All}
use Rattle.bpg_codec.proofs.Lists.{drop-next}
use Rattle.bpg_codec.proofs.Tokens.{all_append}
use Rattle.bpg_format.specs.Limits.{max_entries}
use Rattle.bpg_format.specs.declared.record.Entry.{Entry}
use Rattle.bpg_format.specs.Zero.{zero_entry}
use Rattle.bpg_format.specs.Records.{pad_entries, used_entries}
use Rattle.bpg_export_list.specs.Numbers.{alpha_start, color_start, data_start, coded_start, count_place, fixed_length}
use Rattle.bpg_export_list.specs.Numbers.{head_numbers, animation_numbers, header_numbers, headers_numbers, range_numbers, entry_numbers, entries_numbers, fixed_numbers}
use Rattle.bpg_import_list.specs.Fields.{range_at, range_flags_at, header_at, list_entries, count_of, list_record}
use Rattle.bpg_import_list.specs.Calls.{word, head_fields, header_fields, range_fields, within, fixed_fits}
use Rattle.bpg_import_list.specs.Typing.{OfBits, TypedHeader, TypedRecord, Listable}
use Rattle.bpg_import_list.specs.Theorems.{ListOf}
use Rattle.bpg_import_list.proofs.ListLaws.{entries-count, pad-length}
use Rattle.bpg_import_list.proofs.StatusLaws.{Gives}
use Rattle.bpg_import_list.proofs.FieldLaws.{header-from, entries_from}
use Rattle.bpg_import_list.proofs.FitLaws.{and-true, le, cut_fits, head-cut, header-cut, range-cut, entries-cut}

-- the parts of a list, regrouped
in_order : (h a x y r t e z : List ℕ) → ((h ++ (a ++ ((x ++ (y ++ [])) ++ (r ++ t)))) ++ e) ++ z ≡ (h ++ a) ++ (x ++ (y ++ (r ++ (t ++ (e ++ z)))))
in_order h a x y r t e z = simp (append_assoc, append-nil)

-- ---- its types hold it

word_fits : (n : ℕ) → n % 2 ^ 32 < 2 ^ 32
word_fits n = omega arith

short-fits : (n : ℕ) → n % 2 ^ 16 < 2 ^ 16
short-fits n = omega arith

byte_fits : (n : ℕ) → n % 2 ^ 8 < 2 ^ 8
byte_fits n = omega arith

entries-typed : (l : List ℕ) (k n : ℕ) → All (λ (e : Entry). OfBits 32 (entry_numbers e)) (list_entries l k n)
unfolding list_entries
entries-typed l k zero = tt
entries-typed l k (suc n) = ((word_fits _, (word_fits _, (word_fits _, (word_fits _, tt)))), entries-typed l (k + 4) n)

zeros-typed : (n : ℕ) → All (λ (e : Entry). OfBits 32 (entry_numbers e)) (replicate n zero_entry)
zeros-typed zero = tt
zeros-typed (suc n) = (omega arith, zeros-typed n)

zeros-zero : (n : ℕ) → All (λ (e : Entry). e ≡ zero_entry) (replicate n zero_entry)
zeros-zero zero = tt
zeros-zero (suc n) = (refl, zeros-zero n)

header-typed : (l : List ℕ) (k : ℕ) → TypedHeader (header_at l k)
unfolding header_at range_flags_at
header-typed l k =
    record {
      blocks = (word_fits _, (word_fits _, (word_fits _, (word_fits _, (word_fits _, tt)))));
      pcm-blocks = (word_fits _, (word_fits _, tt));
      depths = (byte_fits _, (byte_fits _, tt));
      seven-bits = byte_fits _;
      nine = refl;
    }

range-from : (l : List ℕ) (k : ℕ) → range_numbers (range_at l k) ≡ range_numbers (range_at (drop k l) 0)
range-from l k = simp (get_or-drop, add-zero)

module _ (l : List ℕ) (g : Gives l) where
  abbrev es : List Entry
  es = list_entries l fixed_length (count_of l)

  counted : length es ≡ count_of l
  counted = entries-count l fixed_length (count_of l)

  typed : TypedRecord (list_record l)
  unfolding list_record
  typed =
      record {
        flags = (byte_fits _, (byte_fits _, (byte_fits _, tt)));
        size = (word_fits _, (word_fits _, (word_fits _, tt)));
        entries = all_append (λ (e : Entry). OfBits 32 (entry_numbers e)) es (replicate (max_entries - length es) zero_entry)
            (entries-typed l fixed_length (count_of l)) (zeros-typed (max_entries - length es));
        whole = pad-length es (omega (arith, counted, g.few));
        control = (short-fits _, (short-fits _, (short-fits _, tt)));
        headers = (header-typed l alpha_start, (header-typed l color_start, tt));
        two = refl;
        data-range = (word_fits _, (word_fits _, tt));
      }

  unused-are : drop (count_of l) (pad_entries es) ≡ replicate (max_entries - length es) zero_entry
  unused-are = ap (λ (n : ℕ). drop n (pad_entries es)) (sym counted) ∙ drop-append_seam es (replicate (max_entries - length es) zero_entry)

  pub listable : Listable (list_record l)
  unfolding list_record
  listable =
      record { typed = typed; few = g.few; unused = subst (All (λ (e : Entry). e ≡ zero_entry)) (sym unused-are) (zeros-zero (max_entries - length es)) }

  -- ---- its numbers are the list's

  used-are : used_entries (list_record l) ≡ es
  unfolding list_record
  used-are = ap (λ (n : ℕ). take n (pad_entries es)) (sym counted) ∙ take-append_seam es (replicate (max_entries - length es) zero_entry)

  -- each part fits
  record Fits : Type 0 where
    head : within head_fields l ≡ true
    alpha : within header_fields (drop alpha_start l) ≡ true
    color : within header_fields (drop color_start l) ≡ true
    range : within range_fields (drop data_start l) ≡ true
    number : leb (get_or l count_place 0) word ≡ true

  fits : Fits
  unfolding fixed_fits
  fits =
      let a = and-true (within head_fields l) _ g.fixed-fits in
      let b = and-true (within header_fields (drop alpha_start l)) _ a.1 in
      let c = and-true (within header_fields (drop color_start l)) _ b.1 in
      let d = and-true (within range_fields (drop data_start l)) _ c.1 in
      record { head = a.0; alpha = b.0; color = c.0; range = d.0; number = d.1 }

  head-is : head_numbers (list_record l) ++ animation_numbers (list_record l) ≡ take 14 l
  head-is = head-cut l ∙ cut_fits head_fields l fits.head (omega (arith, g.fixed-long))

  header_is : (k : ℕ) → k + 25 ≤ length l → within header_fields (drop k l) ≡ true → header_numbers (header_at l k) ≡ take 25 (drop k l)
  header_is k h w = ap header_numbers (header-from l k) ∙ header-cut (drop k l) ∙ cut_fits header_fields (drop k l) w (omega (arith, length-drop k l))

  range-is : range_numbers (range_at l data_start) ≡ take 2 (drop data_start l)
  range-is = range-from l data_start ∙ range-cut (drop data_start l) ∙ cut_fits range_fields (drop data_start l) fits.range (omega (arith, length-drop data_start l, g.fixed-long))

  abbrev width : ℕ
  width = get_or l coded_start 0

  abbrev height : ℕ
  height = get_or l (coded_start + 1) 0

  abbrev rest : List ℕ
  rest = drop (4 * count_of l) (drop fixed_length l)

  entries-are : entries_numbers (used_entries (list_record l)) ++ rest ≡ drop fixed_length l
  entries-are =
      let n = count_of l in
      let e = entries-cut n (drop fixed_length l) (omega (arith, length-drop fixed_length l, g.long)) g.entries_fit in
      ap (λ (x : List Entry). entries_numbers x ++ rest) (used-are ∙ entries_from l fixed_length 0 n) ∙ ap (λ (x : List ℕ). x ++ rest) e ∙ take-append-drop (4 * n) (drop fixed_length l)

  -- the coded size, the number of entries, and the entries
  last-is : (width ∷ height ∷ count_of l ∷ (entries_numbers (used_entries (list_record l)) ++ rest)) ≡ drop coded_start l
  last-is =
      let small : get_or l count_place 0 < 2 ^ 32 = omega (arith, le (get_or l count_place 0) word fits.number) in
      let count-is = mod-eq_of_lt small in
      ap₂ (λ (c : ℕ) (x : List ℕ). width ∷ height ∷ c ∷ x) count-is entries-are
      ∙ sym (drop-next l coded_start 0 (omega (arith, g.fixed-long)) ∙ ap (λ (x : List ℕ). width ∷ x) (drop-next l (coded_start + 1) 0 (omega (arith, g.fixed-long)))
      ∙ ap (λ (x : List ℕ). width ∷ height ∷ x) (drop-next l count_place 0 (omega (arith, g.fixed-long))))

  join : (n k : ℕ) → take k (drop n l) ++ drop (n + k) l ≡ drop n l
  join n k = ap (λ (x : List ℕ). take k (drop n l) ++ x) (sym (drop-drop k n l)) ∙ take-append-drop k (drop n l)

  pub list_of : ListOf (list_record l) l
  unfolding list_record fixed_numbers headers_numbers
  list_of =
      let d4 = ap₂ ◌++◌ range-is last-is ∙ join data_start 2 in
      let d3 = ap₂ ◌++◌ (header_is color_start (omega (arith, g.fixed-long)) fits.color) d4 ∙ join color_start 25 in
      let d2 = ap₂ ◌++◌ (header_is alpha_start (omega (arith, g.fixed-long)) fits.alpha) d3 ∙ join alpha_start 25 in
      let d1 = ap₂ ◌++◌ head-is d2 ∙ take-append-drop 14 l in
      let r = list_record l in
      let regroup =
      in_order (head_numbers r) (animation_numbers r) (header_numbers (header_at l alpha_start)) (header_numbers (header_at l color_start)) (range_numbers (range_at l data_start))
      (width ∷ height ∷ count_of l ∷ []) (entries_numbers (used_entries r)) rest in
      record { width = width; height = height; rest = rest; is = sym (regroup ∙ d1) }
