-- What a cursor yields, step by step, and that these are the file's entries in order.
use mathlib.Core.Path.{◌≡◌, refl, sym, ap, ◌∙◌}
use mathlib.Core.List.{List, [], ◌∷◌, ◌++◌}
use Prim.Native.Nat.{ℕ, zero, suc, ◌+◌, ◌≤◌, ◌<◌}
use native.Mathlib.Omega.{arith}
use lib.ListN.{length, take, get_or, length-append, length-take}
use lib.Seq.{take-nil, take-append_seam, take-append-add, drop-append_seam}
use borrow.Author.Tests.{lt-ltb, le-ltb}
use denote.Ref.{Bor}
use Rattle.bpg_codec.specs.Outcome.{Outcome, ok, error, decoded}
use Rattle.bpg_codec.specs.Lawful.{All, Byte}
use Rattle.bpg_codec.proofs.Lists.{either_way}
use Rattle.bpg_codec.proofs.Select.{select-true, select-false}
use Rattle.bpg_bytes.specs.declared.position.BytePos.{BytePos}
use Rattle.bpg_format.specs.Limits.{max_file}
use Rattle.bpg_format.specs.declared.record.Entry.{Entry}
use Rattle.bpg_format.specs.declared.record.Record.{Record}
use Rattle.bpg_format.specs.declared.answer.Reading.{Reading}
use Rattle.bpg_format.specs.Zero.{zero_entry}
use Rattle.bpg_format.specs.Content.{Extension, Content}
use Rattle.bpg_format.specs.Syntax.{extension_bytes, block_bytes, headers_and_data, file_of}
use Rattle.bpg_format.specs.Rules.{Rules}
use Rattle.bpg_format.specs.Read.{read_content}
use Rattle.bpg_format.specs.Records.{entries_at, block_start, record_of, used_entries, answer_of, read_file}
use Rattle.bpg_format.specs.Parts.{entry_of}
use Rattle.bpg_format.proofs.ReadingLaws.{reads, read_is}
use Rattle.bpg_format.proofs.RecordLaws.{before_entries, file-entries, before-length, entries-length, used-entries}
use Rattle.bpg_format.proofs.Requirements.{refusals}
use Rattle.bpg_read_entries.proofs.Ahead.{Ahead, tags-fit, start, none_ahead, entry-ahead, past, more-ahead}
use Rattle.std.specs.Prelude.{Option, Some, None}
use Rattle.bpg_parts.specs.declared.bounds.BlockBounds.{BlockBounds}
use Rattle.bpg_parts.specs.Entries.{entry_answer}
use Rattle.bpg_parts.specs.Bounds.{bounds_of, block_bounds}
use Rattle.bpg_cursor.specs.declared.cursor.Cursor.{Cursor}
use Rattle.bpg_cursor.specs.declared.step.Step.{Step}
use Rattle.bpg_cursor.specs.Cursors.{step_of, step_at, yielded, advanced, New, after, entry_count, EntriesInOrder}

-- ---- one step in a region that ends with these entries, of which the first stands at p

module _ (region : List ℕ) (p : ℕ) where
  step_end : Ahead region p [] → step_at region p ≡ step_of p (error 2 p)
  step_end a = ap (step_of p) (none_ahead region p a)

  step-more : (e : Extension) (es : List Extension) (a : Ahead region p (e ∷ es))
      → step_at region p ≡ step_of p (ok (decoded (record { tag = e.tag; size = length e.payload }) (start region p e es a) (e.payload ++ block_bytes es)))
  step-more e es a = ap (step_of p) (entry-ahead region p e es a)

-- ---- a walk in it

-- what stands at an index, if anything does
abbrev nth : List Entry → ℕ → Option Entry
nth [] k = None
nth (x ∷ xs) zero = Some x
nth (x ∷ xs) (suc k) = nth xs k

module _ (region : Bor (List ℕ)) where
  abbrev at : ℕ → Cursor
  at p = record { region = region; next = record { 0 = p } }

  abbrev to-next : Step → Cursor
  to-next t = record { region = region; next = t.next }

  stays : (p : ℕ) → Ahead region.now p [] → advanced (at p) ≡ at p
  stays p a = ap to-next (step_end region.now p a)

  moves : (p : ℕ) (e : Extension) (es : List Extension) → Ahead region.now p (e ∷ es) → advanced (at p) ≡ at (p + length (extension_bytes e))
  moves p e es a = ap to-next (step-more region.now p e es a) ∙ ap at (past region.now p e es a)

  -- the cursor after k steps: past the first k entries
  walked : (k : ℕ) (es : List Extension) (p : ℕ) → Ahead region.now p es → after k (at p) ≡ at (p + length (block_bytes (take k es)))
  unfolding after
  walked zero es p a = let n : p ≡ p + 0 = omega arith in ap at n
  walked (suc k) [] p a = ap (after k) (stays p a) ∙ walked k [] p a ∙ rw take-nil
  walked (suc k) (e ∷ es) p a =
      let n : p + length (extension_bytes e) + length (block_bytes (take k es)) ≡ p + length (extension_bytes e ++ block_bytes (take k es)) =
      omega (arith, length-append (extension_bytes e) (block_bytes (take k es))) in
      ap (after k) (moves p e es a) ∙ walked k es _ (more-ahead region.now p e es a) ∙ ap at n

  -- and what it yields then
  yields : (k : ℕ) (es : List Extension) (p : ℕ) → Ahead region.now p es → yielded (after k (at p)) ≡ nth (entries_at p es) k
  unfolding after
  yields zero [] p a = ap (λ (t : Step). t.answer) (step_end region.now p a)
  yields zero (e ∷ es) p a = ap (λ (t : Step). t.answer) (step-more region.now p e es a)
  yields (suc k) [] p a = ap (λ (c : Cursor). yielded (after k c)) (stays p a) ∙ yields k [] p a
  yields (suc k) (e ∷ es) p a =
      ap (λ (c : Cursor). yielded (after k c)) (moves p e es a) ∙ yields k es _ (more-ahead region.now p e es a)
      ∙ ap (λ (q : ℕ). nth (entries_at q es) k) (sym (past region.now p e es a))

-- ---- a file

nth-found : (xs : List Entry) (k : ℕ) → k < length xs → nth xs k ≡ Some (get_or xs k zero_entry)
nth-found [] k h = absurd (omega arith)
nth-found (x ∷ xs) zero h = refl
nth-found (x ∷ xs) (suc k) h = nth-found xs k (omega arith)

nth-absent : (xs : List Entry) (k : ℕ) → length xs ≤ k → nth xs k ≡ None
nth-absent [] k h = refl
nth-absent (x ∷ xs) zero h = absurd (omega arith)
nth-absent (x ∷ xs) (suc k) h = nth-absent xs k (omega arith)

module _ (f : List ℕ) (k : ℕ) where
  answer-found : k < entry_count f → entry_answer f k ≡ Some (entry_of f k)
  answer-found h = select-true (Some (entry_of f k)) None (lt-ltb k (entry_count f) h)

  answer-absent : entry_count f ≤ k → entry_answer f k ≡ None
  answer-absent h = select-false (Some (entry_of f k)) None (le-ltb k (entry_count f) h)

-- a cursor that stands before these entries, and they are the file's
record Begun (f : List ℕ) (c : Cursor) (p : ℕ) (es : List Extension) : Type 0 where
  stands : c.next.0 ≡ p
  ahead : Ahead c.region.now p es
  used : used_entries (read_file f).«record» ≡ entries_at p es
  count : entry_count f ≡ length es

module _ (f : List ℕ) (c : Cursor) (p : ℕ) (es : List Extension) (b : Begun f c p es) (k : ℕ) where
  begins : c ≡ at c.region p
  begins = λ i. record { region = c.region; next = record { 0 = b.stands i } }

  begun-after : after k c ≡ at c.region (p + length (block_bytes (take k es)))
  begun-after = ap (after k) begins ∙ walked c.region k es p b.ahead

  begun-yields : yielded (after k c) ≡ nth (entries_at p es) k
  begun-yields = ap (λ (x : Cursor). yielded (after k x)) begins ∙ yields c.region k es p b.ahead

  begun-entry : yielded (after k c) ≡ entry_answer f k
  unfolding entry_of
  begun-entry =
      let n = entries-length p es in
      begun-yields
      ∙ either_way (entry_count f) k
      (λ h. nth-absent (entries_at p es) k (omega (arith, b.count, n)) ∙ sym (answer-absent f k h))
      (λ h. nth-found (entries_at p es) k (omega (arith, b.count, n))
      ∙ ap (λ (xs : List Entry). Some (get_or xs k zero_entry)) (sym b.used)
      ∙ sym (answer-found f k h))

same-region : (k : ℕ) (c : Cursor) → (after k c).region ≡ c.region
unfolding after
same-region zero c = refl
same-region (suc k) c = same-region k (advanced c)

-- of what stands before the block, the block and what follows, the part that a cursor keeps
kept : (before block rest : List ℕ) → take (length before + length block) (before ++ (block ++ rest)) ≡ before ++ block
kept before block rest = take-append-add before (block ++ rest) (length block) ∙ ap (λ (l : List ℕ). before ++ l) (take-append_seam block rest)

module _ (file : Bor (List ℕ)) (c : Cursor) (new : New file c) where
  abbrev f : List ℕ
  f = file.now

  module _ (d : Content) (rules : Rules d) (is : f ≡ file_of d) where
    read : read_content f ≡ ok d
    read = ap read_content is ∙ reads d rules

    block-bounds : block_bounds f ≡ bounds_of (ok d)
    unfolding block_bounds
    block-bounds = ap bounds_of read

    region-is : c.region.now ≡ before_entries d ++ block_bytes d.extensions
    region-is = new.bytes ∙ rw (block-bounds, is ∙ file-entries d rules.absent-block, ← before-length d) (kept (before_entries d) (block_bytes d.extensions) (headers_and_data d))

    region-short : length c.region.now ≤ max_file
    region-short = omega (arith, ap length new.bytes, length-take (block_bounds f).end.0 f, ap length is, rules.size)

    record_is : (read_file f).«record» ≡ record_of d
    unfolding read_file
    record_is = ap (λ (m : Outcome Content). (answer_of m).«record») read

    accepted : Begun f c (block_start d) d.extensions
    unfolding record_of
    accepted =
        record {
          stands = ap (λ (p : BytePos). p.0) (new.next ∙ ap (λ (b : BlockBounds). b.start) block-bounds);
          ahead =
              record {
                short = region-short;
                left = rw (region-is, ← before-length d, drop-append_seam (before_entries d) (block_bytes d.extensions));
                fit = tags-fit d.control d.extensions rules.entries;
              };
          used = ap used_entries record_is ∙ used-entries (block_start d) d.extensions;
          count = ap (λ (r : Record). r.entry_count) record_is;
        }

  refused : (s o : ℕ) → read_content f ≡ error s o → Begun f c 0 []
  unfolding read_file block_bounds
  refused s o e =
      let none : block_bounds f ≡ bounds_of (error s o) = ap bounds_of e in
      let answer : (read_file f).«record» ≡ (answer_of (error s o)).«record» = ap (λ (m : Outcome Content). (answer_of m).«record») e in
      let empty : c.region.now ≡ [] = new.bytes ∙ rw none in
      record {
        stands = ap (λ (p : BytePos). p.0) (new.next ∙ ap (λ (b : BlockBounds). b.start) none);
        ahead = record { short = rw empty (omega arith); left = rw empty; fit = tt };
        used = ap used_entries answer;
        count = ap (λ (r : Record). r.entry_count) answer;
      }

  module _ (bytes : All Byte f) where
    entry : (k : ℕ) → yielded (after k c) ≡ entry_answer f k
    entry k = by (read_content f) refl
      where
        by : (m : Outcome Content) → read_content f ≡ m → yielded (after k c) ≡ entry_answer f k
        by (ok d) e = let s = read_is f bytes d e in begun-entry f c _ _ (accepted d s.0 s.1) k
        by (error s o) e = begun-entry f c _ _ (refused s o e) k

    after_last : (k : ℕ) → entry_count f ≤ k → yielded (after k c) ≡ None
    after_last k h = entry k ∙ answer-absent f k h

pub in_order : EntriesInOrder
in_order file bytes c new =
    record {
      same-region = λ k. same-region k c;
      offset = λ d rules is k. ap (λ (x : Cursor). x.next.0) (begun-after file.now c _ _ (accepted file c new d rules is) k);
      entry = entry file c new bytes;
      of-syntax = λ d rules is k h.
          begun-yields file.now c _ _ (accepted file c new d rules is) k
          ∙ nth-found (entries_at (block_start d) d.extensions) k (omega (arith, entries-length (block_start d) d.extensions));
      after_last = after_last file c new bytes;
      refused = λ n k. after_last file c new bytes k (omega (arith, ap (λ (r : Reading). r.«record».entry_count) (refusals.reading file.now n)));
    }
