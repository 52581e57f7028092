-- The parts that a file's record names lie in the file.
use mathlib.Core.Path.{◌≡◌, refl, sym, ap, ◌∙◌, subst}
use mathlib.Core.List.{List, []}
use Prim.Native.Nat.{ℕ, ◌≤◌, ◌<◌}
use native.Mathlib.Omega.{arith}
use lib.ListN.{length, take, drop, get_or, length-take, get_or-eq_default}
use lib.Seq.{get_or-take}
use borrow.Author.Tests.{lt-ltb, le-ltb}
use Rattle.bpg_codec.specs.Outcome.{Outcome, ok, error}
use Rattle.bpg_codec.specs.Lawful.{All, Byte}
use Rattle.bpg_codec.proofs.Lists.{either_way}
use Rattle.bpg_codec.proofs.Select.{select-true, select-false}
use Rattle.bpg_format.specs.Limits.{max_entries}
use Rattle.bpg_format.specs.declared.record.Entry.{Entry}
use Rattle.bpg_format.specs.declared.answer.Reading.{Reading}
use Rattle.bpg_format.specs.Zero.{zero_entry}
use Rattle.bpg_format.specs.Content.{Content}
use Rattle.bpg_format.specs.Read.{read_content}
use Rattle.bpg_format.specs.Records.{record_of, bytes_in, used_entries, answer_of, read_file}
use Rattle.bpg_format.specs.Parts.{entry_of, payload_of, data_of, range_end}
use Rattle.bpg_format.proofs.ReadingLaws.{read_is}
use Rattle.bpg_format.proofs.RangeLaws.{ranges-in-order, data-last, payload-part, parts-length}
use Rattle.std.specs.Prelude.{Option, Some, None, unwrap_or}
use Rattle.bpg_parts.specs.Entries.{entry_answer}

-- ---- an entry by its index

module _ (f : List ℕ) (k : ℕ) where
  abbrev count : ℕ
  count = (read_file f).«record».entry_count

  no-entry : count ≤ k → entry_of f k ≡ zero_entry
  unfolding entry_of
  no-entry h = get_or-eq_default (used_entries (read_file f).«record») zero_entry (rw length-take (omega arith))

  pub entry_absent : (r : Reading) → r ≡ read_file f → r.«record».entry_count ≤ k → None ≡ entry_answer f k
  entry_absent r e h = sym (select-false (Some (entry_of f k)) None (le-ltb k count (subst (λ (x : Reading). x.«record».entry_count ≤ k) e h)))

  pub entry_found : (r : Reading) → r ≡ read_file f → k < r.«record».entry_count
      → Some (get_or r.«record».entries k zero_entry) ≡ entry_answer f k
  unfolding entry_of
  entry_found r e h =
      let n : k < count = subst (λ (x : Reading). k < x.«record».entry_count) e h in
      ap (λ (x : Reading). Some (get_or x.«record».entries k zero_entry)) e
      ∙ ap Some (sym (get_or-take count (read_file f).«record».entries k zero_entry n))
      ∙ sym (select-true (Some (entry_of f k)) None (lt-ltb k count n))

  -- the entry, or the zero entry where there is none
  pub entry_in-range : unwrap_or (entry_answer f k) zero_entry ≡ entry_of f k
  entry_in-range =
      either_way count k
      (λ h. ap (λ (o : Option Entry). unwrap_or o zero_entry) (select-false (Some (entry_of f k)) None (le-ltb k count h)) ∙ sym (no-entry h))
      (λ h. ap (λ (o : Option Entry). unwrap_or o zero_entry) (select-true (Some (entry_of f k)) None (lt-ltb k count h)))

-- ---- within the file

-- a fact of every reading follows from the contents and the refusals
by-outcome : (f : List ℕ) (P : Reading → Type 0) → ((c : Content) → read_content f ≡ ok c → P (answer_of (ok c)))
    → ((s o : ℕ) → P (answer_of (error s o))) → P (read_file f)
unfolding read_file
by-outcome f P on-content on-refusal = by (read_content f) refl
  where
    by : (m : Outcome Content) → read_content f ≡ m → P (answer_of m)
    by (ok c) e = on-content c e
    by (error s o) e = on-refusal s o

module _ (f : List ℕ) (bytes : All Byte f) where
  pub count_most : (read_file f).«record».entry_count ≤ max_entries
  unfolding record_of
  count_most = by-outcome f (λ r. r.«record».entry_count ≤ max_entries) (λ c e. (read_is f bytes c e).0.entry-limit) (λ s o. omega arith)

  pub data-inside : range_end (read_file f).«record».«data» ≤ length f
  data-inside =
      by-outcome f (λ r. range_end r.«record».«data» ≤ length f)
      (λ c e. let s = read_is f bytes c e in omega (arith, data-last c s.0, ap length s.1)) (λ s o. omega arith)

  module _ (k : ℕ) where
    -- past the last there is the zero entry
    none_inside : (es : List Entry) → length es ≤ k → range_end (get_or es k zero_entry).payload ≤ length f
    none_inside es h = rw (get_or-eq_default es zero_entry h) (omega arith)

    content-inside : (c : Content) → read_content f ≡ ok c → range_end (get_or (used_entries (record_of c)) k zero_entry).payload ≤ length f
    content-inside c e =
        let s = read_is f bytes c e in
        let es = used_entries (record_of c) in
        let d = (record_of c).«data» in
        either_way (length es) k (none_inside es) λ h.
        rw (payload-part es d k h) (omega (arith, (ranges-in-order c s.0).within k (omega (arith, parts-length es d)), ap length s.1))

    pub payload-inside : range_end (entry_of f k).payload ≤ length f
    unfolding entry_of
    payload-inside =
        by-outcome f (λ r. range_end (get_or (used_entries r.«record») k zero_entry).payload ≤ length f) content-inside (λ s o. none_inside [] (omega arith))

-- ---- their bytes

module _ (f : List ℕ) where
  pub payload-bytes : (k : ℕ) (e : Entry) → e ≡ entry_of f k → {n : ℕ} → n ≡ e.payload.length → take n (drop e.payload.start f) ≡ payload_of f k
  unfolding payload_of
  payload-bytes k e h {n} w = ap (λ (m : ℕ). take m (drop e.payload.start f)) w ∙ ap (λ (x : Entry). bytes_in f x.payload) h

  pub data-bytes : (r : Reading) → r ≡ read_file f → {n : ℕ} → n ≡ r.«record».«data».length → take n (drop r.«record».«data».start f) ≡ data_of f
  unfolding data_of
  data-bytes r h {n} w = ap (λ (m : ℕ). take m (drop r.«record».«data».start f)) w ∙ ap (λ (x : Reading). bytes_in f x.«record».«data») h
