-- A record's list is not refused, and gives the record back.
use mathlib.Core.Path.{◌≡◌, refl, sym, ap, ap₂, ◌∙◌}
use mathlib.Core.Bool.{true}
use mathlib.Core.List.{List, [], ◌∷◌, ◌++◌, append_assoc}
use Prim.Native.Nat.{ℕ, ◌+◌, ◌*◌, ◌%◌, ◌^◌}
use native.Mathlib.Nat.{mod-eq_of_lt}
use native.Mathlib.Omega.{arith}
use lib.ListN.{length, take, drop, length-append}
use lib.Seq.{length-take-le, take-append_seam, drop-drop}
use borrow.Author.Tests.{le-leb}
use Rattle.bpg_codec.specs.Lawful.{All}
use Rattle.bpg_codec.specs.Outcome.{ok}
use Rattle.bpg_codec.proofs.Lists.{by_length}
use Rattle.bpg_codec.proofs.Tokens.{all_take}
use Rattle.bpg_format.specs.declared.record.Entry.{Entry}
use Rattle.bpg_format.specs.declared.record.Header.{Header}
use Rattle.bpg_format.specs.declared.record.Record.{Record}
use Rattle.bpg_format.specs.Zero.{range as range-of}
use Rattle.bpg_format.specs.Records.{used_entries, pad_entries}
use Rattle.bpg_export_list.specs.Numbers.{loop_start, alpha_start, color_start, data_start, fixed_length, head_numbers, range_numbers, entry_numbers, entries_numbers}
use Rattle.bpg_export_list.specs.Numbers.{animation_numbers, header_numbers, headers_numbers, fixed_numbers, numbers_of}
use Rattle.bpg_export_list.proofs.NumberLaws.{entries-length, header-length}
use Rattle.bpg_import_list.specs.Fields.{list_entries, count_of, list_record}
use Rattle.bpg_import_list.specs.Calls.{word, head_fields, header_fields, range_fields, within, fixed_fits, words, read_list}
use Rattle.bpg_import_list.specs.Typing.{OfBits, TypedHeader, Listable}
use Rattle.bpg_import_list.proofs.FieldLaws.{flag, number-from, entries_from, entries-back, padded, headers-length, past, headers-back}
use Rattle.bpg_import_list.proofs.FitLaws.{fit-within, head-fit, header-fit, words-fit}
use Rattle.bpg_import_list.proofs.StatusLaws.{given}

module _ (r : Record) (w h : ℕ) (rest : List ℕ) (t : Listable r) where
  abbrev used : List ℕ
  used = entries_numbers (used_entries r)

  abbrev all : List ℕ
  all = numbers_of r w h ++ rest

  -- what follows the headers, and what follows the loop numbers
  abbrev last : List ℕ
  last = w ∷ h ∷ r.entry_count ∷ (used ++ rest)

  abbrev after-loop : List ℕ
  after-loop = headers_numbers r.headers ++ (range_numbers r.«data» ++ last)

  in_parts : all ≡ head_numbers r ++ (animation_numbers r ++ after-loop)
  unfolding fixed_numbers
  in_parts = simp append_assoc

  past_head : drop loop_start all ≡ animation_numbers r ++ after-loop
  past_head = past (head_numbers r) (animation_numbers r ++ after-loop) all loop_start in_parts refl

  past-loop : drop alpha_start all ≡ after-loop
  past-loop = sym (drop-drop 3 loop_start all) ∙ ap (drop 3) past_head

  past-headers : drop data_start all ≡ range_numbers r.«data» ++ last
  past-headers =
      sym (drop-drop 50 alpha_start all)
      ∙ past (headers_numbers r.headers) (range_numbers r.«data» ++ last) (drop alpha_start all) 50 past-loop (omega (arith, headers-length r.headers t.typed.headers, t.typed.two))

  past-fixed : drop fixed_length all ≡ used ++ rest
  past-fixed = sym (drop-drop 5 data_start all) ∙ ap (drop 5) past-headers

  counted : count_of all ≡ r.entry_count
  counted = ap (λ (n : ℕ). n % 2 ^ 32) (number-from all data_start (range_numbers r.«data» ++ last) 4 past-headers) ∙ mod-eq_of_lt t.typed.size.1.1.0

  used-count : length (used_entries r) ≡ r.entry_count
  used-count = length-take-le r.entry_count r.entries (omega (arith, t.few, t.typed.whole))

  entries-are : pad_entries (list_entries all fixed_length (count_of all)) ≡ r.entries
  entries-are =
      ap pad_entries
      (ap (list_entries all fixed_length) (counted ∙ sym used-count) ∙ entries_from all fixed_length 0 (length (used_entries r))
      ∙ ap (λ (l : List ℕ). list_entries l 0 (length (used_entries r))) past-fixed ∙ entries-back (used_entries r) rest (all_take (λ (e : Entry). OfBits 32 (entry_numbers e)) r.entry_count r.entries t.typed.entries))
      ∙ padded r.entry_count r.entries t.few t.typed.whole t.unused

  pub record-back : list_record all ≡ r
  unfolding list_record fixed_numbers
  record-back =
      let loop = number-from all loop_start (animation_numbers r ++ after-loop) in
      let headers = headers-back r.headers all (range_numbers r.«data» ++ last) t.typed.two t.typed.headers past-loop in
      let range = number-from all data_start (range_numbers r.«data» ++ last) in
      let ty = t.typed in
      λ z.
      record {
        pixel_format = mod-eq_of_lt ty.flags.0 z;
        alpha1_flag = flag r.alpha1_flag z;
        bit_depth_minus_8 = mod-eq_of_lt ty.flags.1.0 z;
        color_space = mod-eq_of_lt ty.flags.1.1.0 z;
        extension_present_flag = flag r.extension_present_flag z;
        alpha2_flag = flag r.alpha2_flag z;
        limited_range_flag = flag r.limited_range_flag z;
        animation_flag = flag r.animation_flag z;
        picture_width = mod-eq_of_lt ty.size.0 z;
        picture_height = mod-eq_of_lt ty.size.1.0 z;
        explicit_length = flag r.explicit_length z;
        entry_count = counted z;
        entries = entries-are z;
        loop_count = (ap (λ (n : ℕ). n % 2 ^ 16) (loop 0 past_head) ∙ mod-eq_of_lt ty.control.0) z;
        frame_period_num = (ap (λ (n : ℕ). n % 2 ^ 16) (loop 1 past_head) ∙ mod-eq_of_lt ty.control.1.0) z;
        frame_period_den = (ap (λ (n : ℕ). n % 2 ^ 16) (loop 2 past_head) ∙ mod-eq_of_lt ty.control.1.1.0) z;
        headers = headers z;
        «data» =
            ap₂ (λ (a b : ℕ). range-of a b) (ap (λ (n : ℕ). n % 2 ^ 32) (range 0 past-headers) ∙ mod-eq_of_lt ty.data-range.0)
            (ap (λ (n : ℕ). n % 2 ^ 32) (range 1 past-headers) ∙ mod-eq_of_lt ty.data-range.1.0) z;
      }

  -- ---- and fits

  head-fits : within head_fields all ≡ true
  head-fits = ap (within head_fields) (in_parts ∙ sym (append_assoc (head_numbers r) (animation_numbers r) after-loop)) ∙ fit-within head_fields (head_numbers r ++ animation_numbers r) after-loop (head-fit r t.typed)

  headers-fit : (hs : List Header) → length hs ≡ 2 → All TypedHeader hs → drop alpha_start all ≡ headers_numbers hs ++ (range_numbers r.«data» ++ last)
      → (within header_fields (drop alpha_start all) ≡ true) × (within header_fields (drop color_start all) ≡ true)
  unfolding headers_numbers
  headers-fit hs =
      by_length 2
      (λ m. All TypedHeader m → drop alpha_start all ≡ headers_numbers m ++ (range_numbers r.«data» ++ last) → (within header_fields (drop alpha_start all) ≡ true) × (within header_fields (drop color_start all) ≡ true))
      (λ a b ty e.
      let tail = range_numbers r.«data» ++ last in
      let f = e ∙ append_assoc (header_numbers a) (header_numbers b ++ []) tail in
      let g = sym (drop-drop 25 alpha_start all) ∙ past (header_numbers a) ((header_numbers b ++ []) ++ tail) (drop alpha_start all) 25 f (header-length a ty.0.nine) ∙ append_assoc (header_numbers b) [] tail in
      (ap (within header_fields) f ∙ fit-within header_fields (header_numbers a) _ (header-fit a ty.0), ap (within header_fields) g ∙ fit-within header_fields (header_numbers b) _ (header-fit b ty.1.0))) hs

  fixed-fits : fixed_fits all ≡ true
  unfolding fixed_fits
  fixed-fits =
      let hs = headers-fit r.headers t.typed.two t.typed.headers past-loop in
      let range-fits = ap (within range_fields) past-headers ∙ fit-within range_fields (range_numbers r.«data») last (omega (arith, t.typed.data-range)) in
      let count-is = number-from all data_start (range_numbers r.«data» ++ last) 4 past-headers in
      rw (head-fits, hs.0, hs.1, range-fits, count-is, le-leb r.entry_count word (omega (arith, t.typed.size))) refl

  entry-words : words (take (4 * count_of all) (drop fixed_length all)) ≡ true
  entry-words =
      let n : 4 * count_of all ≡ length used = omega (arith, counted, used-count, entries-length (used_entries r)) in
      ap₂ (λ (k : ℕ) (l : List ℕ). words (take k l)) n past-fixed ∙ ap words (take-append_seam used rest)
      ∙ words-fit (used_entries r) (all_take (λ (e : Entry). OfBits 32 (entry_numbers e)) r.entry_count r.entries t.typed.entries)

  all-length : length all ≡ fixed_length + length used + length rest
  all-length =
      ap length in_parts
      ∙ omega (arith, length-append (headers_numbers r.headers) (range_numbers r.«data» ++ last), headers-length r.headers t.typed.headers, t.typed.two, length-append used rest)

  pub record-given : read_list all ≡ ok r
  record-given =
      given all (omega (arith, all-length)) fixed-fits (omega (arith, counted, t.few)) (omega (arith, all-length, counted, used-count, entries-length (used_entries r))) entry-words ∙ ap ok record-back
