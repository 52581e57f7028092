-- The check of an entry and the check of a file, case by case.
use mathlib.Core.Path.{◌≡◌, refl, sym, ap, ◌∙◌, subst}
use mathlib.Core.Bool.{Bool, true, false}
use mathlib.Core.List.{List, [], ◌∷◌, map}
use mathlib.Core.Logic.{◌↔◌, ◌≢◌}
use Prim.Native.Nat.{ℕ, zero, suc, ◌+◌, ◌-◌, ◌≤◌, ◌<◌}
use native.Mathlib.Omega.{arith}
use lib.ListN.{length, take, drop, get_or, length-append, length-map, length-take, length-drop, drop_of_length-le}
use lib.Dec.{eqb}
use borrow.Author.Tests.{eq-eqb, ne_eqb}
use Rattle.bpg_codec.specs.Select.{select}
use Rattle.bpg_codec.specs.Outcome.{Outcome, ok, error, ◌>>=◌, guard}
use Rattle.bpg_codec.proofs.Lists.{drop-next}
use Rattle.bpg_codec.proofs.Refusals.{Refuses, refuses-error, refuses-guard}
use Rattle.bpg_codec.proofs.Select.{select-true, select-false}
use Rattle.bpg_format.specs.Limits.{max_entries}
use Rattle.bpg_format.specs.declared.record.Entry.{Entry}
use Rattle.bpg_format.specs.declared.record.Record.{Record}
use Rattle.bpg_format.specs.declared.answer.Reading.{Reading}
use Rattle.bpg_format.specs.Zero.{zero_entry}
use Rattle.bpg_format.specs.Rules.{Accepted}
use Rattle.bpg_format.specs.Records.{bytes_in, used_entries, record_of, read_file}
use Rattle.bpg_format.specs.Parts.{record_in, entry_of, range_end}
use Rattle.bpg_format.proofs.Requirements.{reading, ranges}
use Rattle.bpg_thumbnails.specs.declared.answer.Checked.{Checked}
use Rattle.bpg_thumbnails.specs.declared.levels.Size.{Size}
use Rattle.bpg_thumbnails.specs.Thumbnails.{levels_below, is_accepted, size_of, is_smaller, with_tag4, thumbnails, each, check_thumbnail, check_entries, check_file}
use Rattle.bpg_thumbnails.specs.Calls.{refused, checked_of, check_thumbnails}
use Rattle.bpg_thumbnails.specs.Answers.{check_entry, FileAt, EntryAt}
use Rattle.bpg_thumbnails.proofs.EachLaws.{each-refuses, tagged-full}

-- ---- the statuses

abbrev pub ThumbnailStatus : ℕ → ℕ → Type 0
ThumbnailStatus s o = (27 ≤ s) × (s ≤ 29)

thumbnail-refuses : (left : ℕ) (f : List ℕ) (start : ℕ) (e : Entry) → Refuses ThumbnailStatus (check_thumbnail left f start e)
unfolding check_thumbnail
thumbnail-refuses zero f start e = refuses-error ThumbnailStatus 27 _ (omega arith, omega arith)
thumbnail-refuses (suc left) f start e =
    let g = bytes_in f e.payload in
    refuses-guard ThumbnailStatus (is_accepted g) 28 _ _ (omega arith, omega arith)
    (refuses-guard ThumbnailStatus (is_smaller (size_of (record_in g)) (size_of (record_in f))) 29 _ _ (omega arith, omega arith)
    (each-refuses (check_thumbnail left g _) ThumbnailStatus (thumbnails g) (tagged-full _ (used_entries (record_in g)) λ k t. thumbnail-refuses left g _ _)))

pub entries-refuse : (left : ℕ) (f : List ℕ) (start : ℕ) → Refuses ThumbnailStatus (check_entries left f start)
entries-refuse left f start =
    each-refuses (check_thumbnail left f start) ThumbnailStatus (thumbnails f) (tagged-full _ (used_entries (record_in f)) λ k t. thumbnail-refuses left f start _)

-- ---- an entry: x is what its check answers

module _ (left : ℕ) (f : List ℕ) (start : ℕ) (e : Entry) where
  abbrev offset : ℕ
  offset = start + e.payload.start

  -- the payload as a part of the file
  abbrev pub part : List ℕ
  part = take (e.payload.start + e.payload.length - e.payload.start) (drop e.payload.start f)

  part-is : part ≡ bytes_in f e.payload
  part-is = let n : e.payload.start + e.payload.length - e.payload.start ≡ e.payload.length = omega arith in rw n

  pub entry_other : e.tag ≢ 4 → ok tt ≡ check_entry left f start e
  unfolding check_entry
  entry_other n = sym (select-false _ _ (ne_eqb e.tag 4 n))

  module _ (t : e.tag ≡ 4) where
    entry-is : check_entry left f start e ≡ check_thumbnail left f start e
    unfolding check_entry
    entry-is = select-true _ _ (eq-eqb e.tag 4 t)

    pub entry-deep : left ≡ 0 → error 27 offset ≡ check_entry left f start e
    unfolding check_thumbnail
    entry-deep z = rw (entry-is, z)

    module _ (below : ℕ) (n : left ≡ below + 1) (r : Reading) (read : r ≡ read_file part) where
      entered : check_entry left f start e
          ≡ (guard (is_accepted part) 28 offset >>= λ _. guard (is_smaller (size_of (record_in part)) (size_of (record_in f))) 29 offset >>= λ _. check_entries below part offset)
      unfolding check_thumbnail
      entered = let s : left ≡ suc below = omega arith in entry-is ∙ ap (λ (k : ℕ). check_thumbnail k f start e) s ∙ rw part-is

      pub entry-unread : r.status ≢ 0 → error 28 offset ≡ check_entry left f start e
      entry-unread h = rw (entered, ← read, ne_eqb r.status 0 h)

      module _ (z : r.status ≡ 0) (parent : Size) (p : parent ≡ size_of (record_in f)) (b : Bool) (c : b ≡ is_smaller (size_of r.«record») parent) where
        smaller-is : is_smaller (size_of (record_in part)) (size_of (record_in f)) ≡ b
        smaller-is = sym (c ∙ rw (p, read))

        pub entry-large : b ≡ false → error 29 offset ≡ check_entry left f start e
        entry-large h = rw (entered, smaller-is, h, ← read, eq-eqb r.status 0 z)

        pub entry-entered : b ≡ true → check_entries below part offset ≡ check_entry left f start e
        entry-entered h = rw (entered, smaller-is, h, ← read, eq-eqb r.status 0 z)

-- ---- the entries of a file, one after the other

module _ (left : ℕ) (f : List ℕ) (start : ℕ) where
  -- those that are left
  abbrev pub rest : List Entry → Outcome (Unit {0})
  rest es = each (check_thumbnail left f start) (with_tag4 es)

  rest-next : (e : Entry) (es : List Entry) → rest (e ∷ es) ≡ (check_entry left f start e >>= λ _. rest es)
  unfolding select each with_tag4 check_entry
  rest-next e es = by (eqb e.tag 4)
    where
      by : (b : Bool)
          → each (check_thumbnail left f start) (select b (e ∷ with_tag4 es) (with_tag4 es)) ≡ (select b (check_thumbnail left f start e) (ok tt) >>= λ _. rest es)
      by true = refl
      by false = refl

  module _ (e : Entry) (es : List Entry) where
    rest-stops : (s o : ℕ) → error s o ≡ check_entry left f start e → error s o ≡ rest (e ∷ es)
    rest-stops s o c = rw (rest-next e es, ← c)

    rest-goes-on : (u : Unit {0}) → ok u ≡ check_entry left f start e → rest (e ∷ es) ≡ rest es
    rest-goes-on u c = rw (rest-next e es, ← c)

-- ---- an accepted file and its record

module _ {f : List ℕ} {r : Record} {start : ℕ} (p : FileAt f r start) where
  pub count_most : r.entry_count ≤ max_entries
  unfolding record_of
  count_most =
      let a = p.accepted in
      let e : r ≡ record_of a.0 = p.record_is ∙ ap record_in a.2 ∙ ap (λ (x : Reading). x.«record») (reading.the-answer a.0 a.1) in
      subst (λ (x : Record). x.entry_count ≤ max_entries) (sym e) a.1.entry-limit

  used-length : length (used_entries r) ≡ r.entry_count
  used-length =
      let es = used_entries (record_in f) in
      let d = (record_in f).«data» in
      let n : length es ≡ (record_in f).entry_count =
      omega (arith, (ranges f p.accepted).last.0, length-append (map (λ (e : Entry). e.payload) es) (d ∷ []), length-map es (λ (e : Entry). e.payload)) in
      subst (λ (x : Record). length (used_entries x) ≡ x.entry_count) (sym p.record_is) n

  pub rest_all : (left : ℕ) → rest left f start (used_entries r) ≡ check_entries left f start
  rest_all left = rw p.record_is

  module _ (k : ℕ) (h : k < length (used_entries r)) where
    abbrev entry : Entry
    entry = get_or (used_entries r) k zero_entry

    used-next : drop k (used_entries r) ≡ entry ∷ drop (k + 1) (used_entries r)
    used-next = drop-next (used_entries r) k zero_entry h

    payload-inside : range_end entry.payload ≤ length f
    unfolding entry_of
    payload-inside =
        let a = ranges f p.accepted in
        let j : k < r.entry_count = omega (arith, used-length) in
        let n = subst (λ (x : Record). k < x.entry_count) p.record_is j in
        let e : entry ≡ entry_of f k = ap (λ (x : Record). get_or (used_entries x) k zero_entry) p.record_is in
        rw (e, (a.payloads k n).0) (a.in_order.within k (omega (arith, a.last.0)))

    pub entry_at : EntryAt f entry (size_of r) start
    entry_at = record { size_is = ap size_of p.record_is; payload = payload-inside; inside = p.inside }

    module _ (left : ℕ) (inv : rest left f start (drop k (used_entries r)) ≡ check_entries left f start) where
      pub file-stops : (s o : ℕ) → error s o ≡ check_entry left f start entry → error s o ≡ check_entries left f start
      file-stops s o c = rest-stops left f start entry (drop (k + 1) (used_entries r)) s o c ∙ ap (rest left f start) (sym used-next) ∙ inv

      pub file-goes-on : (u : Unit {0}) → ok u ≡ check_entry left f start entry → rest left f start (drop (k + 1) (used_entries r)) ≡ check_entries left f start
      file-goes-on u c = sym (rest-goes-on left f start entry (drop (k + 1) (used_entries r)) u c) ∙ ap (rest left f start) (sym used-next) ∙ inv

pub file-ends : (left : ℕ) (f : List ℕ) (start : ℕ) (es : List Entry) (k : ℕ) → rest left f start (drop k es) ≡ check_entries left f start
    → length es ≤ k → ok tt ≡ check_entries left f start
unfolding with_tag4 each
file-ends left f start es k inv h =
    let none = drop_of_length-le es {i = k} h in
    ap (rest left f start) (sym none) ∙ inv

-- a thumbnail that was read
pub thumbnail-at : {f : List ℕ} {e : Entry} {parent : Size} {start : ℕ} → EntryAt f e parent start
    → (r : Reading) → r ≡ read_file (part 0 f start e) → ((r.status ≡ 0) ↔ Accepted (part 0 f start e)) → r.status ≡ 0
    → FileAt (part 0 f start e) r.«record» (start + e.payload.start)
thumbnail-at {f} {e} {parent} {start} p r read exactly z =
    record {
      accepted = exactly.0 z;
      record_is = ap (λ (x : Reading). x.«record») read;
      inside = omega (arith, p.inside, p.payload, length-take (e.payload.start + e.payload.length - e.payload.start) (drop e.payload.start f), length-drop e.payload.start f);
    }

-- ---- the outer file

module _ (f : List ℕ) (r : Reading) (read : r ≡ read_file f) where
  pub outer-refused : r.status ≢ 0 → refused r.status r.offset ≡ check_thumbnails f
  unfolding check_thumbnails check_file
  outer-refused n = rw (← read, ne_eqb r.status 0 n)

  pub outer-entered : (x : Checked) → x ≡ checked_of (check_entries levels_below f 0) → r.status ≡ 0 → x ≡ check_thumbnails f
  unfolding check_thumbnails check_file
  outer-entered x a z = a ∙ rw (eq-eqb (read_file f).status 0 (ap (λ (y : Reading). y.status) (sym read) ∙ z))
