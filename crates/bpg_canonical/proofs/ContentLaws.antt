-- The canonical record of an accepted file, over that file, has the canonical content.
use mathlib.Core.Path.{◌≡◌, refl, sym, ap, ap₂, ◌∙◌, subst}
use mathlib.Core.Bool.{Bool, true, false, not, ◌&&◌}
use mathlib.Core.List.{List, [], ◌∷◌, ◌++◌, map, append_assoc, append-nil}
use Prim.Native.Nat.{ℕ, ◌+◌, ◌≤◌}
use native.Mathlib.Omega.{arith}
use lib.Dec.{eqb}
use lib.ListN.{length, take, drop, length-append, replicate}
use lib.Seq.{take-take, take-append_seam}
use borrow.Author.Tests.{ne_eqb}
use Rattle.bpg_codec.specs.Lawful.{All}
use Rattle.bpg_codec.specs.Bits.{all_zero}
use Rattle.bpg_codec.proofs.Select.{select-true, select-false}
use Rattle.bpg_ue7.specs.Ue7.{ue7_bytes}
use Rattle.bpg_format.specs.declared.record.Entry.{Entry}
use Rattle.bpg_format.specs.declared.record.Header.{Header}
use Rattle.bpg_format.specs.Content.{is_empty, has_alpha, Extension, AnimationControl, Content}
use Rattle.bpg_format.specs.Rules.{is_animation, ExtensionRules, Rules}
use Rattle.bpg_format.specs.Syntax.{file_of}
use Rattle.bpg_format.specs.Records.{bytes_in, extension_of, used_entries, record_of, content_of}
use Rattle.bpg_format.specs.Zero.{range}
use Rattle.bpg_format.specs.Write.{ZeroEntry, Writable}
use Rattle.bpg_format.specs.Pictures.{picture_header, header_with, needs_range, picture_entry, animation_bytes, entry_with, picture_of, with_choices, canonical_content, canonical_bytes}
use Rattle.bpg_format.proofs.RecordLaws.{content-record}
use Rattle.bpg_format.proofs.Writing.{record-writable}
use Rattle.bpg_format.proofs.CanonicalLaws.{canonical-rules}
use Rattle.bpg_write_plan.specs.FileParts.{RangeInside}
use Rattle.bpg_write_plan.proofs.SizeLaws.{range_length}
use Rattle.bpg_canonical_record.specs.Records.{loop_size, canonical_entry, has_range, canonical_header, canonical_record}
use Rattle.bpg_canonical_record.proofs.RecordLaws.{take-changed, drop-changed}

-- ---- an entry

module _ (file : List ℕ) (p : AnimationControl) where
  abbrev size : ℕ
  size = length (ue7_bytes p.count) + length (ue7_bytes p.period_num) + length (ue7_bytes p.period_den)

  loop-size : length (animation_bytes p []) ≡ size
  loop-size =
      let a = ue7_bytes p.count in
      let b = ue7_bytes p.period_num in
      let d = ue7_bytes p.period_den in
      omega (arith, length-append a (b ++ (d ++ [])), length-append b (d ++ []), length-append d [])

  -- a tag 5 payload begins with the three numbers
  module _ (l dummy : List ℕ) (is : l ≡ ue7_bytes p.count ++ (ue7_bytes p.period_num ++ (ue7_bytes p.period_den ++ dummy))) where
    in_two : l ≡ animation_bytes p [] ++ dummy
    in_two = is ∙ simp (append_assoc, append-nil)

    first_part : take size l ≡ animation_bytes p []
    first_part = ap₂ (λ (n : ℕ) (m : List ℕ). take n m) (sym loop-size) in_two ∙ take-append_seam (animation_bytes p []) dummy

    size-most : size ≤ length l
    size-most = omega (arith, ap length in_two, length-append (animation_bytes p []) dummy, loop-size)

  module _ (e : Entry) (rules : ExtensionRules p (extension_of file e)) (inside : RangeInside (length file) e) where
    shorter : is_animation (extension_of file e) ≡ true → size ≤ e.payload.length
    shorter t =
        let d = rules.control t in
        omega (arith, size-most (bytes_in file e.payload) d.0 d.1.is, range_length file e.payload inside)

    loop-payload : is_animation (extension_of file e) ≡ true → bytes_in file (range e.payload.start size) ≡ animation_bytes p []
    loop-payload t =
        let d = rules.control t in
        sym (take-take size e.payload.length (drop e.payload.start file) (shorter t)) ∙ first_part (bytes_in file e.payload) d.0 d.1.is

    entry-content : extension_of file (canonical_entry size e) ≡ entry_with p [] (picture_entry (extension_of file e))
    entry-content = by (eqb e.tag 5) refl
      where
        by : (t : Bool) → eqb e.tag 5 ≡ t → extension_of file (canonical_entry size e) ≡ entry_with p [] (picture_entry (extension_of file e))
        by true w =
            ap (extension_of file) (select-true _ e w)
            ∙ ap (λ (x : List ℕ). record { tag = e.tag; payload = x }) (loop-payload w ∙ sym (select-true (animation_bytes p []) (picture_entry (extension_of file e)).payload w))
        by false w =
            ap (extension_of file) (select-false _ e w)
            ∙ ap (λ (x : List ℕ). record { tag = e.tag; payload = x })
            (sym (select-false (animation_bytes p []) (picture_entry (extension_of file e)).payload w ∙ select-false [] (bytes_in file e.payload) w))

    entry-inside : RangeInside (length file) (canonical_entry size e)
    entry-inside = by (eqb e.tag 5) refl
      where
        by : (t : Bool) → eqb e.tag 5 ≡ t → RangeInside (length file) (canonical_entry size e)
        by true w =
            subst (RangeInside (length file)) (sym (select-true _ e w)) (omega (arith, inside, shorter w))
        by false w = subst (RangeInside (length file)) (sym (select-false _ e w)) inside

  -- ---- all entries

  pub entries-content : (es : List Entry) → All (ExtensionRules p) (map (extension_of file) es) → All (RangeInside (length file)) es
      → map (extension_of file) (map (canonical_entry size) es) ≡ map (entry_with p []) (map picture_entry (map (extension_of file) es))
  entries-content [] r i = refl
  entries-content (e ∷ es) r i = ap₂ (λ (x : Extension) (l : List Extension). x ∷ l) (entry-content e r.0 i.0) (entries-content es r.1 i.1)

  pub entries-inside : (es : List Entry) → All (ExtensionRules p) (map (extension_of file) es) → All (RangeInside (length file)) es
      → All (RangeInside (length file)) (map (canonical_entry size) es)
  entries-inside [] r i = tt
  entries-inside (e ∷ es) r i = (entry-inside e r.0 i.0, entries-inside es r.1 i.1)

-- ---- a header

-- the nine flags are zero where the range flag is not set
abbrev NoRange : Header → Type 0
NoRange h = h.sps_range_extension_flag ≡ false → h.range_flags ≡ replicate 9 false

header-content : (h : Header) → NoRange h → canonical_header h ≡ header_with (needs_range (picture_header h)) (needs_range (picture_header h)) (picture_header h)
header-content h none = ap (λ (b : Bool). header_with b b (picture_header h)) (by h.sps_range_extension_flag refl)
  where
    by : (b : Bool) → h.sps_range_extension_flag ≡ b → has_range h ≡ needs_range (picture_header h)
    by true w = ap (λ (b : Bool). b && needs_range (picture_header h)) w
    by false w = ap (λ (b : Bool). b && needs_range (picture_header h)) w ∙ sym (ap (λ (l : List Bool). not (all_zero l)) (none w))

-- ---- the content

no-entry : (es : List Extension) → not (eqb (length es) 0) ≡ not (is_empty (map picture_entry es))
no-entry [] = refl
no-entry (e ∷ es) = ap not (ne_eqb (length (e ∷ es)) 0 (λ k. omega arith))

module _ (c : Content) (r : Rules c) where
  abbrev file : List ℕ
  file = file_of c

  abbrev used : List Entry
  used = used_entries (record_of c)

  original : Writable (length file) (record_of c) file
  original = record-writable c r (length file) (omega arith)

  extensions-are : map (extension_of file) used ≡ c.extensions
  unfolding content_of
  extensions-are = ap (λ (d : Content). d.extensions) (content-record c r)

  data_is : bytes_in file (record_of c).«data» ≡ c.hevc_data
  unfolding content_of
  data_is = ap (λ (d : Content). d.hevc_data) (content-record c r)

  known : All (ExtensionRules c.control) (map (extension_of file) used)
  known = subst (All (ExtensionRules c.control)) (sym extensions-are) r.entries

  extensions-canonical : map (extension_of file) (used_entries (canonical_record (record_of c))) ≡ map (entry_with c.control []) (map picture_entry c.extensions)
  unfolding record_of
  extensions-canonical =
      ap (map (extension_of file)) (take-changed (canonical_entry (loop_size (record_of c))) (record_of c).entries (length c.extensions))
      ∙ entries-content file c.control used known original.payloads
      ∙ ap (λ (l : List Extension). map (entry_with c.control []) (map picture_entry l)) extensions-are

  alpha-range : NoRange c.alpha_header
  alpha-range = by (has_alpha c.flags) refl
    where
      by : (b : Bool) → has_alpha c.flags ≡ b → NoRange c.alpha_header
      by true w = (r.alpha-header w).fields.no-range
      by false w = λ _. ap (λ (h : Header). h.range_flags) (r.no-alpha w)

  pub canonical-content : content_of (canonical_record (record_of c)) file ≡ canonical_content c
  unfolding content_of canonical_content with_choices picture_of record_of
  canonical-content =
      λ z.
      record {
        flags =
            record {
              pixel_format = c.flags.pixel_format;
              alpha1 = c.flags.alpha1;
              bit_depth_minus8 = c.flags.bit_depth_minus8;
              color_space = c.flags.color_space;
              extension_present = no-entry c.extensions z;
              alpha2 = c.flags.alpha2;
              limited_range = c.flags.limited_range;
              animation = c.flags.animation;
            };
        width = c.width;
        height = c.height;
        explicit_length = false;
        extensions = extensions-canonical z;
        control = c.control;
        alpha_header = header-content c.alpha_header alpha-range z;
        color_header = header-content c.color_header r.color-header.fields.no-range z;
        hevc_data = data_is z;
      }

  -- it is written where the buffer holds its file
  pub canonical-writable : Writable (length (canonical_bytes c)) (canonical_record (record_of c)) file
  unfolding record_of canonical_bytes
  canonical-writable =
      let g = canonical_entry (loop_size (record_of c)) in
      record {
        few = r.entry-limit;
        payloads = subst (All (RangeInside (length file))) (sym (take-changed g (record_of c).entries (length c.extensions))) (entries-inside file c.control used known original.payloads);
        data-range = original.data-range;
        unused = subst (All ZeroEntry) (sym (drop-changed g (record_of c).entries (length c.extensions))) original.unused;
        rules = subst Rules (sym canonical-content) (canonical-rules c r);
        holds = subst (λ (d : Content). length (file_of d) ≤ length (file_of (canonical_content c))) (sym canonical-content) (omega arith);
      }
