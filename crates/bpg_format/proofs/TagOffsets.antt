-- The tag offsets of a record are those of the syntax, and the writer pays no heed to them.
use mathlib.Core.Path.{◌≡◌, refl, sym, ap, ◌∙◌, subst}
use mathlib.Core.List.{List, [], ◌∷◌, ◌++◌, append_assoc, map}
use Prim.Native.Nat.{ℕ, zero, suc, ◌+◌, ◌<◌}
use native.Mathlib.Omega.{arith}
use lib.ListN.{length, take, drop, get_or, length-append}
use lib.Seq.{drop-append_seam}
use Rattle.bpg_codec.specs.Outcome.{Outcome}
use Rattle.bpg_ue7.specs.Ue7.{ue7_bytes}
use Rattle.bpg_format.specs.Limits.{max_file}
use Rattle.bpg_format.specs.declared.record.Entry.{Entry}
use Rattle.bpg_format.specs.declared.record.Record.{Record}
use Rattle.bpg_format.specs.declared.answer.Reading.{Reading}
use Rattle.bpg_format.specs.Zero.{zero_entry}
use Rattle.bpg_format.specs.Content.{Extension, Content}
use Rattle.bpg_format.specs.Syntax.{extension_bytes, block_bytes, headers_and_data, file_of}
use Rattle.bpg_format.specs.Rules.{Rules, Accepted}
use Rattle.bpg_format.specs.Records.{entries_at, block_start, record_of, extension_of, used_entries, content_of, read_file}
use Rattle.bpg_format.specs.Parts.{entry_of, range_end}
use Rattle.bpg_format.specs.Write.{entries_in_source, ranges_in_source, zero_entries, unused_zero, check_record, write_outcome, written_answer, written_buffer}
use Rattle.bpg_format.specs.Write.{write_file, write_buffer, write_size}
use Rattle.bpg_format.specs.TagOffsets.{TagOffsets, without_tag_offset, without_tag_offsets, WrittenAlike}
use Rattle.bpg_format.proofs.RecordLaws.{file-entries, before_entries, before-length, used-entries}
use Rattle.bpg_format.proofs.Requirements.{reading}

-- ---- the entries of a block

next-offset : (es : List Extension) (p k : ℕ) → suc k < length es
    → (get_or (entries_at p es) (suc k) zero_entry).tag_offset ≡ range_end (get_or (entries_at p es) k zero_entry).payload
next-offset [] p k h = absurd (omega arith)
next-offset (x ∷ []) p k h = absurd (omega arith)
next-offset (x ∷ y ∷ es) p zero h = refl
next-offset (x ∷ y ∷ es) p (suc k) h = next-offset (y ∷ es) _ k (omega arith)

first-offset : (es : List Extension) (p : ℕ) → 0 < length es → (get_or (entries_at p es) 0 zero_entry).tag_offset ≡ p
first-offset [] p h = absurd (omega arith)
first-offset (x ∷ es) p h = refl

bytes-there : (es : List Extension) (f before after : List ℕ) (p k : ℕ) → f ≡ before ++ (block_bytes es ++ after) → p ≡ length before → k < length es
    → drop (get_or (entries_at p es) k zero_entry).tag_offset f ≡ block_bytes (drop k es) ++ after
bytes-there [] f before after p k e n h = absurd (omega arith)
bytes-there (x ∷ es) f before after p zero e n h = rw (e, n) (drop-append_seam before (block_bytes (x ∷ es) ++ after))
bytes-there (x ∷ es) f before after p (suc k) e n h =
    let tag = ue7_bytes x.tag in
    let size = ue7_bytes (length x.payload) in
    let m : p + length tag + length size + length x.payload ≡ length (before ++ extension_bytes x) =
    omega (arith, n, length-append before (extension_bytes x), length-append tag (size ++ x.payload), length-append size x.payload) in
    let g : f ≡ (before ++ extension_bytes x) ++ (block_bytes es ++ after) = e ∙ simp append_assoc in
    bytes-there es f (before ++ extension_bytes x) after _ k g m (omega arith)

-- ---- the entries of a file

module _ (c : Content) (r : Rules c) where
  abbrev entries : List Entry
  entries = entries_at (block_start c) c.extensions

  is_read : (read_file (file_of c)).«record» ≡ record_of c
  is_read = ap (λ (x : Reading). x.«record») (reading.the-answer c r)

  count-is : (read_file (file_of c)).«record».entry_count ≡ length c.extensions
  unfolding record_of
  count-is = ap (λ (x : Record). x.entry_count) is_read

  entry-is : (k : ℕ) → entry_of (file_of c) k ≡ get_or entries k zero_entry
  unfolding entry_of record_of
  entry-is k = ap (λ (x : Record). get_or (used_entries x) k zero_entry) is_read ∙ ap (λ (es : List Entry). get_or es k zero_entry) (used-entries (block_start c) c.extensions)

  content-first : 0 < (read_file (file_of c)).«record».entry_count → (entry_of (file_of c) 0).tag_offset ≡ block_start c
  content-first h = ap (λ (e : Entry). e.tag_offset) (entry-is 0) ∙ first-offset c.extensions (block_start c) (omega (arith, count-is))

  content-next : (k : ℕ) → k + 1 < (read_file (file_of c)).«record».entry_count → (entry_of (file_of c) (k + 1)).tag_offset ≡ range_end (entry_of (file_of c) k).payload
  content-next k h =
      let n : k + 1 ≡ suc k = omega arith in
      ap (λ (m : ℕ). (entry_of (file_of c) m).tag_offset) n ∙ ap (λ (e : Entry). e.tag_offset) (entry-is (suc k))
      ∙ next-offset c.extensions (block_start c) k (omega (arith, count-is)) ∙ ap (λ (e : Entry). range_end e.payload) (sym (entry-is k))

  content-bytes : (k : ℕ) → k < length c.extensions → drop (entry_of (file_of c) k).tag_offset (file_of c) ≡ block_bytes (drop k c.extensions) ++ headers_and_data c
  content-bytes k h =
      ap (λ (e : Entry). drop e.tag_offset (file_of c)) (entry-is k)
      ∙ bytes-there c.extensions (file_of c) (before_entries c) (headers_and_data c) (block_start c) k (file-entries c r.absent-block) (sym (before-length c)) h

pub tag-offsets : TagOffsets
tag-offsets =
    record {
      first = λ f a. accepted-first f a;
      next = λ f a. accepted-next f a;
      bytes = content-bytes;
    }
  where
    accepted-first : (f : List ℕ) (a : Accepted f) → 0 < (read_file f).«record».entry_count → (entry_of f 0).tag_offset ≡ block_start a.0
    accepted-first f a =
        subst (λ (g : List ℕ). 0 < (read_file g).«record».entry_count → (entry_of g 0).tag_offset ≡ block_start a.0) (sym a.2) (content-first a.0 a.1)

    accepted-next : (f : List ℕ) → Accepted f → (k : ℕ) → k + 1 < (read_file f).«record».entry_count → (entry_of f (k + 1)).tag_offset ≡ range_end (entry_of f k).payload
    accepted-next f a k =
        subst (λ (g : List ℕ). k + 1 < (read_file g).«record».entry_count → (entry_of g (k + 1)).tag_offset ≡ range_end (entry_of g k).payload) (sym a.2)
        (content-next a.0 a.1 k)

-- ---- the writer looks at tags and ranges alone

take-without : (n : ℕ) (es : List Entry) → take n (map without_tag_offset es) ≡ map without_tag_offset (take n es)
take-without zero es = refl
take-without (suc n) [] = refl
take-without (suc n) (e ∷ es) = ap (λ (l : List Entry). without_tag_offset e ∷ l) (take-without n es)

drop-without : (n : ℕ) (es : List Entry) → drop n (map without_tag_offset es) ≡ map without_tag_offset (drop n es)
drop-without zero es = refl
drop-without (suc n) [] = refl
drop-without (suc n) (e ∷ es) = drop-without n es

module _ (source : List ℕ) where
  extensions-alike : (es : List Entry) → map (extension_of source) (map without_tag_offset es) ≡ map (extension_of source) es
  extensions-alike [] = refl
  extensions-alike (e ∷ es) = ap (λ (l : List Extension). extension_of source e ∷ l) (extensions-alike es)

  in-source-alike : (es : List Entry) → entries_in_source source (map without_tag_offset es) ≡ entries_in_source source es
  in-source-alike [] = refl
  in-source-alike (e ∷ es) = rw (in-source-alike es)

zero-alike : (es : List Entry) → zero_entries (map without_tag_offset es) ≡ zero_entries es
zero-alike [] = refl
zero-alike (e ∷ es) = rw (zero-alike es)

module _ (r : Record) (source : List ℕ) where
  content-alike : content_of (without_tag_offsets r) source ≡ content_of r source
  unfolding content_of
  content-alike = rw (take-without r.entry_count r.entries, extensions-alike source (used_entries r))

  ranges-alike : ranges_in_source source (without_tag_offsets r) ≡ ranges_in_source source r
  unfolding ranges_in_source
  ranges-alike = rw (take-without r.entry_count r.entries, in-source-alike source (used_entries r))

  unused-alike : unused_zero (without_tag_offsets r) ≡ unused_zero r
  unfolding unused_zero
  unused-alike = rw (drop-without r.entry_count r.entries, zero-alike (drop r.entry_count r.entries))

  outcome-alike : (capacity : ℕ) → write_outcome capacity (without_tag_offsets r) source ≡ write_outcome capacity r source
  unfolding write_outcome check_record
  outcome-alike capacity = rw (ranges-alike, unused-alike, content-alike)

module _ (r s : Record) (e : without_tag_offsets r ≡ without_tag_offsets s) (source : List ℕ) where
  contents : content_of r source ≡ content_of s source
  contents = sym (content-alike r source) ∙ ap (λ (x : Record). content_of x source) e ∙ content-alike s source

  outcomes : (capacity : ℕ) → write_outcome capacity r source ≡ write_outcome capacity s source
  outcomes capacity = sym (outcome-alike r source capacity) ∙ ap (λ (x : Record). write_outcome capacity x source) e ∙ outcome-alike s source capacity

  answers : (out : List ℕ) → write_file r source out ≡ write_file s source out
  unfolding write_file
  answers out = ap written_answer (outcomes (length out))

  buffers : (out : List ℕ) → write_buffer r source out ≡ write_buffer s source out
  unfolding write_buffer
  buffers out = ap (λ (o : Outcome (List ℕ)). written_buffer o out) (outcomes (length out))

  sizes : write_size r source ≡ write_size s source
  unfolding write_size
  sizes = ap written_answer (outcomes max_file)

pub written-alike : WrittenAlike
written-alike r s e = record { content = contents r s e; answer = answers r s e; buffer = buffers r s e; size = sizes r s e }
