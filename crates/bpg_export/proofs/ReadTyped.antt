-- A record that was read is one that a list can give.
use mathlib.Core.Path.{◌≡◌, refl, sym, ap, subst}
use mathlib.Core.Bool.{Bool, true, false}
use mathlib.Core.List.{List, [], ◌∷◌, map}
use Prim.Native.Nat.{ℕ, zero, suc, ◌+◌, ◌≤◌}
use native.Mathlib.Omega.{arith}
use lib.ListN.{length, replicate, take, drop, length-append, length-replicate, take-append-drop}
use lib.Seq.{drop_at}
use Rattle.bpg_codec.specs.Lawful.{All, Byte}
use Rattle.bpg_codec.specs.Outcome.{Outcome, ok, error}
use Rattle.bpg_format.specs.Limits.{max_entries, max_file}
use Rattle.bpg_format.specs.declared.record.Entry.{Entry}
use Rattle.bpg_format.specs.declared.record.Header.{Header}
use Rattle.bpg_format.specs.Zero.{zero_entry, zero_header, zero_record}
use Rattle.bpg_format.specs.Content.{Extension, AnimationControl, Content, has_alpha, bit_depth}
use Rattle.bpg_format.specs.Syntax.{file_of}
use Rattle.bpg_format.specs.Rules.{is_animation, has_animation, ExtensionRules, HeaderRules, Rules}
use Rattle.bpg_format.specs.Read.{read_content}
use Rattle.bpg_format.specs.Records.{entries_at, block_start, extension_of, used_entries, content_of, answer_of, read_file, record_of as content_record}
use Rattle.bpg_format.specs.Write.{Writable}
use Rattle.bpg_codec.proofs.Tokens.{all_append}
use Rattle.bpg_format.proofs.RuleLaws.{bool-apart, by-tag}
use Rattle.bpg_format.proofs.RecordLaws.{used-entries, entries-length, content-record}
use Rattle.bpg_format.proofs.ReadingLaws.{read_is}
use Rattle.bpg_format.proofs.Writing.{record-writable}
use Rattle.bpg_export_list.specs.Numbers.{entry_numbers}
use Rattle.bpg_import_list.specs.Typing.{OfBits, TypedHeader, TypedRecord, Listable}

-- ---- a header

module _ (depth : ℕ) (shallow : depth ≤ 14) (h : Header) (r : HeaderRules depth h) where
  pcm-typed : (t : Bool) → h.pcm_enabled_flag ≡ t
      → OfBits 32 (h.log2_min_pcm_luma_coding_block_size_minus3 ∷ h.log2_diff_max_min_pcm_luma_coding_block_size ∷ [])
      × OfBits 8 (h.pcm_sample_bit_depth_luma_minus1 ∷ h.pcm_sample_bit_depth_chroma_minus1 ∷ [])
  pcm-typed true e = let p = r.hevc.pcm e in omega (arith, r.fields.min-pcm e, r.fields.diff-pcm e)
  pcm-typed false e = let p = r.fields.no-pcm e in omega arith

  header-typed : TypedHeader h
  header-typed = let p = pcm-typed h.pcm_enabled_flag refl in omega arith

zero-typed : TypedHeader zero_header
zero-typed = omega arith

-- ---- the loop numbers

abbrev LoopTyped : AnimationControl → Type 0
LoopTyped p = OfBits 16 (p.count ∷ p.period_num ∷ p.period_den ∷ [])

loop-typed : (p : AnimationControl) (es : List Extension) → All (ExtensionRules p) es → has_animation es ≡ true → LoopTyped p
loop-typed p [] a h = bool-apart h refl
loop-typed p (e ∷ es) a h = by-tag (is_animation e) (λ w. let d = a.0.control w in omega arith) (λ w. loop-typed p es a.1 (rw w at h))

-- ---- the entries

-- a tag stands before its payload
tags-before : (es : List Extension) (p : ℕ) → All (λ (e : Entry). e.tag_offset ≤ e.payload.start) (entries_at p es)
tags-before [] p = tt
tags-before (e ∷ es) p = (omega arith, tags-before es _)

module _ (file : List ℕ) (short : length file ≤ max_file) (p : AnimationControl) where
  used-typed : (es : List Entry) → All (ExtensionRules p) (map (extension_of file) es) → All (λ (e : Entry). e.payload.start + e.payload.length ≤ length file) es
      → All (λ (e : Entry). e.tag_offset ≤ e.payload.start) es → All (λ (e : Entry). OfBits 32 (entry_numbers e)) es
  used-typed [] a b d = tt
  used-typed (e ∷ es) a b d = (omega arith, used-typed es a.1 b.1 d.1)

unused-typed : (es : List Entry) → All (λ (e : Entry). e ≡ zero_entry) es → All (λ (e : Entry). OfBits 32 (entry_numbers e)) es
unused-typed [] a = tt
unused-typed (e ∷ es) a = (rw a.0 (omega arith), unused-typed es a.1)

zeros : (n : ℕ) → All (λ (e : Entry). e ≡ zero_entry) (replicate n zero_entry)
zeros zero = tt
zeros (suc n) = (refl, zeros n)

-- ---- the record

module _ (c : Content) (r : Rules c) where
  writable : Writable (length (file_of c)) (content_record c) (file_of c)
  writable = record-writable c r (length (file_of c)) (omega arith)

  extensions-are : map (extension_of (file_of c)) (used_entries (content_record c)) ≡ c.extensions
  unfolding content_of
  extensions-are = ap (λ (d : Content). d.extensions) (content-record c r)

  tags-first : All (λ (e : Entry). e.tag_offset ≤ e.payload.start) (used_entries (content_record c))
  unfolding content_record
  tags-first =
      subst (All (λ (e : Entry). e.tag_offset ≤ e.payload.start)) (sym (used-entries (block_start c) c.extensions)) (tags-before c.extensions (block_start c))

  unused-zero : All (λ (e : Entry). e ≡ zero_entry) (drop (content_record c).entry_count (content_record c).entries)
  unfolding content_record
  unused-zero = rw (drop_at (entries_at (block_start c) c.extensions) _ (length c.extensions) (entries-length (block_start c) c.extensions)) (search zeros)

  entries-typed : All (λ (e : Entry). OfBits 32 (entry_numbers e)) (content_record c).entries
  entries-typed =
      let n = (content_record c).entry_count in
      let es = (content_record c).entries in
      subst (All (λ (e : Entry). OfBits 32 (entry_numbers e))) (take-append-drop n es)
      (all_append (λ (e : Entry). OfBits 32 (entry_numbers e)) (take n es) (drop n es)
      (used-typed (file_of c) r.size c.control (take n es) (subst (All (ExtensionRules c.control)) (sym extensions-are) r.entries) writable.payloads tags-first)
      (unused-typed (drop n es) unused-zero))

  whole : length (content_record c).entries ≡ max_entries
  unfolding content_record
  whole = simp (length-append, length-replicate) (omega (arith, entries-length (block_start c) c.extensions, r.entry-limit))

  loop-small : LoopTyped c.control
  loop-small = by-tag (has_animation c.extensions) (loop-typed c.control c.extensions r.entries) (λ e. rw (r.no-animation e) (omega arith))

  alpha-typed : TypedHeader c.alpha_header
  alpha-typed =
      by-tag (has_alpha c.flags) (λ e. header-typed (bit_depth c.flags) (omega arith) c.alpha_header (r.alpha-header e))
      (λ e. rw (r.no-alpha e) zero-typed)

  content-typed : TypedRecord (content_record c)
  unfolding content_record
  content-typed =
      let color = header-typed (bit_depth c.flags) (omega arith) c.color_header r.color-header in
      let range = writable.data-range in
      search (entries-typed, whole, loop-small, alpha-typed, arith)

zeros-typed : (n : ℕ) → All (λ (e : Entry). OfBits 32 (entry_numbers e)) (replicate n zero_entry)
zeros-typed zero = tt
zeros-typed (suc n) = (omega arith, zeros-typed n)

refused-typed : TypedRecord zero_record
refused-typed =
    record {
      flags = omega arith;
      size = omega arith;
      entries = zeros-typed max_entries;
      whole = refl;
      control = omega arith;
      headers = (zero-typed, (zero-typed, tt));
      two = refl;
      data-range = omega arith;
    }

pub read-listable : (f : List ℕ) → All Byte f → Listable (read_file f).«record»
unfolding read_file
read-listable f bytes = by (read_content f) refl
  where
    by : (m : Outcome Content) → read_content f ≡ m → Listable (answer_of m).«record»
    by (ok c) e =
        let r = (read_is f bytes c e).0 in
        record { typed = content-typed c r; few = (writable c r).few; unused = unused-zero c r }
    by (error s o) e = record { typed = refused-typed; few = omega arith; unused = zeros max_entries }
