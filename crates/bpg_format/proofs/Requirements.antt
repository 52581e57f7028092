-- The requirements hold.
use mathlib.Core.Path.{◌≡◌, refl, sym, ap, ◌∙◌, subst}
use mathlib.Core.Bool.{Bool, true, false}
use mathlib.Core.List.{List, [], ◌++◌}
use mathlib.Core.Logic.{◌↔◌, ◌≢◌}
use Prim.Native.Nat.{ℕ, ◌+◌, ◌≤◌, ◌<◌}
use native.Mathlib.Omega.{arith}
use lib.Dec.{leb}
use lib.ListN.{length, take, drop, get_or, length-take, get_or-eq_default, get_or-map}
use lib.Seq.{take-append_seam, drop-append_seam}
use borrow.Author.Tests.{le-leb, lt-leb}
use Rattle.bpg_codec.specs.Outcome.{Outcome, ok, error, ◌>>=◌, guard}
use Rattle.bpg_codec.specs.Lawful.{All, Byte}
use Rattle.bpg_codec.proofs.Lists.{member-later}
use Rattle.bpg_codec.proofs.Refusals.{Refuses}
use Rattle.bpg_format.specs.declared.record.Range.{Range}
use Rattle.bpg_format.specs.declared.record.Entry.{Entry}
use Rattle.bpg_format.specs.declared.record.Record.{Record}
use Rattle.bpg_format.specs.declared.answer.Reading.{Reading as Answer}
use Rattle.bpg_format.specs.declared.answer.Written.{Written}
use Rattle.bpg_format.specs.Zero.{zero_entry, refused_written}
use Rattle.bpg_format.specs.Content.{Extension, Content}
use Rattle.bpg_format.specs.Syntax.{file_of}
use Rattle.bpg_format.specs.Rules.{Rules, Accepted}
use Rattle.bpg_format.specs.Records.{record_of, extension_of, used_entries, content_of, answer_of, read_file, bytes_in}
use Rattle.bpg_format.specs.Read.{read_content, reading_statuses}
use Rattle.bpg_format.specs.Parts.{entry_of, payload_of, data_of, ranges_of, range_end, InOrder, joined}
use Rattle.bpg_format.specs.Write.{write_outcome, written_answer, written_buffer, write_file, write_buffer, WritingStatus, Typed, Writable}
use Rattle.bpg_format.specs.Pictures.{Picture, picture_of, canonical_content, canonical_bytes, Shows, SamePicture, canonical_outcome, canonical_file, canonical_buffer, CanonicalizingStatus}
use Rattle.bpg_format.specs.Requirements.{no_extension, Refusals, ExactReading, ExactWriting, Ranges, parts, part, RangesApart, bytes, OneFormPerPicture}
use Rattle.bpg_format.proofs.ReadingLaws.{reads, answer, accepted-status, status-accepted, refusal, statuses, content-unique}
use Rattle.bpg_format.proofs.ReadingRefusals.{content-refuses}
use Rattle.bpg_format.proofs.RecordLaws.{content-record}
use Rattle.bpg_format.proofs.RangeLaws.{ranges-in-order, ranges-whole, data-last, one-range, payload-part, last-part, parts-length, part_length, used-count}
use Rattle.bpg_format.proofs.WritingRefusals.{write-refuses}
use Rattle.bpg_format.proofs.Writing.{written-sound, written-full, record-written}
use Rattle.bpg_format.proofs.CanonicalLaws.{same-picture, canonical-rules}
use Rattle.bpg_format.proofs.Canonical.{equal-exactly, again, minimal}

-- ---- 1

refused-at-zero : (o : Outcome (List ℕ)) (out : List ℕ) → Refuses (λ s p. WritingStatus s × (p ≡ 0)) o → (written_answer o).status ≢ 0
    → (written_answer o ≡ refused_written (written_answer o).status 0) × WritingStatus (written_answer o).status × (written_buffer o out ≡ out)
refused-at-zero (ok l) out h n = absurd (n refl)
refused-at-zero (error s o) out h n = let z = h s o refl in (ap (refused_written s) z.1, z.0, refl)

written-refusal : (r : Record) (source out : List ℕ) → (write_file r source out).status ≢ 0
    → (write_file r source out ≡ refused_written (write_file r source out).status 0) × WritingStatus (write_file r source out).status × (write_buffer r source out ≡ out)
unfolding write_file write_buffer
written-refusal r source out n = refused-at-zero (write_outcome (length out) r source) out (write-refuses (length out) r source) n

canonical-refused : (f out : List ℕ) → (read_file f).status ≢ 0
    → (canonical_file f out ≡ refused_written (read_file f).status (read_file f).offset) × (canonical_buffer f out ≡ out)
unfolding canonical_file canonical_buffer canonical_outcome read_file
canonical-refused f out n = by (read_content f) n
  where
    sized : Outcome Content → Outcome (List ℕ)
    sized o = o >>= λ c. guard (leb (length (canonical_bytes c)) (length out)) 20 0 >>= λ _. ok (canonical_bytes c)

    by : (o : Outcome Content) → (answer_of o).status ≢ 0
        → (written_answer (sized o) ≡ refused_written (answer_of o).status (answer_of o).offset) × (written_buffer (sized o) out ≡ out)
    by (ok c) n = absurd (n refl)
    by (error s o) n = (refl, refl)

canonical-small : (f out : List ℕ) (a : Accepted f) → length out < length (canonical_bytes a.0)
    → (canonical_file f out ≡ refused_written 20 0) × (canonical_buffer f out ≡ out)
unfolding canonical_file canonical_buffer canonical_outcome
canonical-small f out a h =
    let e : canonical_outcome (length out) f ≡ error 20 0 = rw (a.2, reads a.0 a.1, lt-leb _ _ h) in
    (ap written_answer e, ap (λ (o : Outcome (List ℕ)). written_buffer o out) e)

-- canonicalizing answers the reading's refusal, 20, or the canonical form
canonical-cases : (f out : List ℕ) (P : Outcome (List ℕ) → Type 0) → ((s o : ℕ) → read_content f ≡ error s o → P (error s o)) → P (error 20 0)
    → ((c : Content) → P (ok (canonical_bytes c))) → P (canonical_outcome (length out) f)
unfolding canonical_outcome
canonical-cases f out P refused small fits = by (read_content f) refl
  where
    sized : (c : Content) (t : Bool) → P (guard t 20 0 >>= λ _. ok (canonical_bytes c))
    sized c true = fits c
    sized c false = small

    by : (o : Outcome Content) → read_content f ≡ o → P (o >>= λ c. guard (leb (length (canonical_bytes c)) (length out)) 20 0 >>= λ _. ok (canonical_bytes c))
    by (ok c) e = sized c (leb (length (canonical_bytes c)) (length out))
    by (error s o) e = refused s o e

canonical-number : (f out : List ℕ) → (canonical_file f out).status ≢ 0 → CanonicalizingStatus (canonical_file f out).status
unfolding canonical_file
canonical-number f out =
    canonical-cases f out (λ o. (written_answer o).status ≢ 0 → CanonicalizingStatus (written_answer o).status)
    (λ s o e n. member-later s 20 reading_statuses (content-refuses f s o e)) (λ n. tt) (λ c n. absurd (n refl))

no_payload : (f : List ℕ) (k : ℕ) → (read_file f).«record».entry_count ≤ k → payload_of f k ≡ []
unfolding payload_of entry_of
no_payload f k h =
    let r = (read_file f).«record» in
    ap (λ (e : Entry). bytes_in f e.payload) (get_or-eq_default (used_entries r) zero_entry (rw length-take (omega arith)))

no-parts : (f : List ℕ) (k : ℕ) → (read_file f).status ≢ 0 → (payload_of f k ≡ []) × (data_of f ≡ [])
unfolding data_of
no-parts f k n =
    let e = refusal f n in
    (no_payload f k (subst (λ (x : Answer). x.«record».entry_count ≤ k) (sym e) (omega arith)), ap (λ (x : Answer). bytes_in f x.«record».«data») e)

pub refusals : Refusals
refusals =
    record {
      reading = refusal;
      reading-number = statuses;
      writing = written-refusal;
      canonicalizing = canonical-refused;
      canonicalizing-small = canonical-small;
      canonicalizing-number = canonical-number;
      past-last = no_payload;
      refused-parts = no-parts;
    }

-- ---- 2

the-record : (c : Content) → Rules c → (read_file (file_of c)).«record» ≡ record_of c
the-record c r = ap (λ (x : Answer). x.«record») (answer c r)

the-content : (c : Content) → Rules c → content_of (read_file (file_of c)).«record» (file_of c) ≡ c
the-content c r = ap (λ (x : Record). content_of x (file_of c)) (the-record c r) ∙ content-record c r

the-payload : (c : Content) → Rules c → (k : ℕ) → payload_of (file_of c) k ≡ (get_or c.extensions k no_extension).payload
unfolding payload_of entry_of content_of
the-payload c r k =
    let es = used_entries (read_file (file_of c)).«record» in
    ap (λ (e : Extension). e.payload) (sym (get_or-map (extension_of (file_of c)) es k zero_entry) ∙ ap (λ (x : Content). get_or x.extensions k no_extension) (the-content c r))

the_data : (c : Content) → Rules c → data_of (file_of c) ≡ c.hevc_data
unfolding data_of content_of
the_data c r = ap (λ (x : Content). x.hevc_data) (the-content c r)

pub reading : ExactReading
reading =
    record {
      accepted = accepted-status;
      only-accepted = status-accepted;
      the-answer = answer;
      the-content = the-content;
      one-content = content-unique;
      the-payload = the-payload;
      the_data = the_data;
    }

-- what a success says of its answer and of the buffer
abbrev Done : Written → (after out l : List ℕ) → Type 0
Done w after out l = (w ≡ record { status = 0; offset = 0; count = length l }) × (after ≡ l ++ drop (length l) out)

success : (o : Outcome (List ℕ)) (l out : List ℕ) → o ≡ ok l → Done (written_answer o) (written_buffer o out) out l
success o l out e = rw e (refl, refl)

-- the bytes that were written
taken : (w : Written) (after out l : List ℕ) → Done w after out l → bytes w after ≡ l
taken w after out l d = rw (d.0, d.1) (take-append_seam l (drop (length l) out))

written-outcome : (o : Outcome (List ℕ)) → Refuses (λ s p. WritingStatus s × (p ≡ 0)) o → (written_answer o).status ≡ 0 → (l : List ℕ) × (o ≡ ok l)
written-outcome (ok l) h e = (l, refl)
written-outcome (error s o) h e = absurd (subst WritingStatus e (h s o refl).0)

written-done : (r : Record) (source out : List ℕ) → Writable (length out) r source
    → Done (write_file r source out) (write_buffer r source out) out (file_of (content_of r source))
unfolding write_file write_buffer
written-done r source out w = success (write_outcome (length out) r source) (file_of (content_of r source)) out (written-full (length out) r source w)

exactly : (r : Record) (source out : List ℕ) → Typed r → All Byte source → ((write_file r source out).status ≡ 0) ↔ Writable (length out) r source
unfolding write_file
exactly r source out t b = (
  λ e. let w = written-outcome (write_outcome (length out) r source) (write-refuses (length out) r source) e in (written-sound r source t b (length out) w.0 w.1).0,
  λ w. ap (λ (x : Written). x.status) (written-done r source out w).0,
)

read_back : (r : Record) (source out : List ℕ) → Writable (length out) r source
    → let file = take (write_file r source out).count (write_buffer r source out) in
    (read_file file ≡ answer_of (ok (content_of r source))) × (content_of (read_file file).«record» file ≡ content_of r source)
read_back r source out w =
    rw (taken (write_file r source out) (write_buffer r source out) out (file_of (content_of r source)) (written-done r source out w))
    (answer (content_of r source) w.rules, the-content (content_of r source) w.rules)

same-file : (f out : List ℕ) → Accepted f → length f ≤ length out
    → Done (write_file (read_file f).«record» f out) (write_buffer (read_file f).«record» f out) out f
unfolding write_file write_buffer
same-file f out a h =
    let c = a.0 in
    let n : length (file_of c) ≤ length out = subst (λ (g : List ℕ). length g ≤ length out) a.2 h in
    rw (a.2, the-record c a.1) (success (write_outcome (length out) (record_of c) (file_of c)) (file_of c) out (record-written c a.1 (length out) n))

pub writing : ExactWriting
writing = record { exactly = exactly; bytes = written-done; read_back = read_back; same-file = same-file }

-- the parts of a record of which these two facts are known
module _ (f : List ℕ) (order : InOrder (parts f) (length f)) (used : length (used_entries (read_file f).«record») ≡ (read_file f).«record».entry_count) where
  abbrev es : List Entry
  es = used_entries (read_file f).«record»

  abbrev d : Range
  d = (read_file f).«record».«data»

  handed-payload : (k : ℕ) → k < (read_file f).«record».entry_count → ((entry_of f k).payload ≡ part f k) × (length (payload_of f k) ≡ (part f k).length)
  unfolding payload_of entry_of
  handed-payload k h =
      let p = payload-part es d k (omega (arith, used)) in
      let n = order.within k (omega (arith, used, parts-length es d)) in
      (p, ap (λ (r : Range). length (bytes_in f r)) p ∙ part_length f (part f k) n)

  handed-data : (length (parts f) ≡ (read_file f).«record».entry_count + 1) × (d ≡ part f (read_file f).«record».entry_count)
      × (length (data_of f) ≡ (part f (read_file f).«record».entry_count).length)
  unfolding data_of
  handed-data =
      let p = subst (λ (n : ℕ). d ≡ part f n) used (last-part es d) in
      let n = order.within (read_file f).«record».entry_count (omega (arith, used, parts-length es d)) in
      (parts-length es d ∙ ap (λ (n : ℕ). n + 1) used, p, ap (λ (r : Range). length (bytes_in f r)) p ∙ part_length f (part f (read_file f).«record».entry_count) n)

ranges-of : (c : Content) → Rules c → Ranges (file_of c)
ranges-of c r =
    let f = file_of c in
    let e = sym (the-record c r) in
    let order : InOrder (parts f) (length f) = subst (λ (x : Record). InOrder (ranges_of x) (length f)) e (ranges-in-order c r) in
    let used = subst (λ (x : Record). length (used_entries x) ≡ x.entry_count) e (used-count c) in
    record {
      in_order = order;
      no-shared-byte = λ offset i j. one-range (parts f) (length f) offset i j order;
      payloads = handed-payload f order used;
      last = handed-data f order used;
      whole = subst (λ (x : Record). joined 0 (ranges_of x) f ≡ f) e (ranges-whole c r);
      data-last = subst (λ (x : Record). range_end x.«data» ≡ length f) e (data-last c r);
    }

pub ranges : RangesApart
ranges f a = subst Ranges (sym a.2) (ranges-of a.0 a.1)

-- ---- 3

-- canonicalizing an accepted file into a buffer that holds the canonical form
done : (f out : List ℕ) (a : Accepted f) → length (canonical_bytes a.0) ≤ length out
    → Done (canonical_file f out) (canonical_buffer f out) out (canonical_bytes a.0)
unfolding canonical_outcome canonical_file canonical_buffer
done f out a h =
    let e : canonical_outcome (length out) f ≡ ok (canonical_bytes a.0) = rw (a.2, reads a.0 a.1, le-leb _ _ h) in
    success (canonical_outcome (length out) f) (canonical_bytes a.0) out e

-- the picture of a file is that of its content
picture-of : (f : List ℕ) (a : Accepted f) (p : Picture) → Shows f p → picture_of a.0 ≡ p
picture-of f a p s = ap picture_of (content-unique a.0 s.content a.1 s.rules (sym a.2 ∙ s.is)) ∙ s.picture

same-pictures : (f g : List ℕ) (a : Accepted f) (b : Accepted g) → SamePicture f g ↔ (picture_of a.0 ≡ picture_of b.0)
same-pictures f g a b = (
  λ p. picture-of f a p.0 p.1 ∙ sym (picture-of g b p.0 p.2),
  λ e. (
    picture_of b.0,
    record { content = a.0; rules = a.1; is = a.2; picture = e },
    record { content = b.0; rules = b.1; is = b.2; picture = refl },
  ),
)

module _ (f out : List ℕ) (a : Accepted f) (x : Done (canonical_file f out) (canonical_buffer f out) out (canonical_bytes a.0)) where
  abbrev written : List ℕ
  written = bytes (canonical_file f out) (canonical_buffer f out)

  bytes-are : written ≡ canonical_bytes a.0
  bytes-are = taken (canonical_file f out) (canonical_buffer f out) out (canonical_bytes a.0) x

  count-is : (canonical_file f out).count ≡ length (canonical_bytes a.0)
  count-is = ap (λ (w : Written). w.count) x.0

  succeeds : canonical_file f out ≡ record { status = 0; offset = 0; count = length written }
  succeeds = x.0 ∙ ap (λ (l : List ℕ). record { status = 0; offset = 0; count = length l }) (sym bytes-are)

  rest-kept : drop (canonical_file f out).count (canonical_buffer f out) ≡ drop (canonical_file f out).count out
  rest-kept = rw (x.0, x.1) (drop-append_seam (canonical_bytes a.0) (drop (length (canonical_bytes a.0)) out))

  is-form : written ≡ file_of (canonical_content a.0)
  unfolding canonical_bytes
  is-form = bytes-are

  abbrev form : Accepted written
  form = (canonical_content a.0, canonical-rules a.0 a.1, is-form)

  once_more : (out3 : List ℕ) → length written ≤ length out3
      → let w3 = canonical_file written out3 in
      (w3.status ≡ 0) × (w3.count ≡ (canonical_file f out).count) × (bytes w3 (canonical_buffer written out3) ≡ written)
  once_more out3 h =
      let e : canonical_bytes (canonical_content a.0) ≡ written = again a.0 ∙ sym bytes-are in
      let z = done written out3 form (rw e h) in (
        ap (λ (w : Written). w.status) z.0,
        ap (λ (w : Written). w.count) z.0 ∙ ap length (again a.0) ∙ sym count-is,
        taken (canonical_file written out3) (canonical_buffer written out3) out3 _ z ∙ e,
      )

  least : (h : List ℕ) → Accepted h → SamePicture h f → (canonical_file f out).count ≤ length h
  least h b p = rw (count-is, b.2) (minimal a.0 b.0 b.1 ((same-pictures h f b a).0 p))

  module _ (g out2 : List ℕ) (b : Accepted g) (y : Done (canonical_file g out2) (canonical_buffer g out2) out2 (canonical_bytes b.0)) where
    equal : (((canonical_file f out).count ≡ (canonical_file g out2).count) × (written ≡ bytes (canonical_file g out2) (canonical_buffer g out2))) ↔ SamePicture f g
    equal =
        let eq = equal-exactly a.0 b.0 a.1 b.1 in
        let pictures = same-pictures f g a b in
        let other = taken (canonical_file g out2) (canonical_buffer g out2) out2 (canonical_bytes b.0) y in (
          λ e. pictures.1 (eq.0 (sym bytes-are ∙ e.1 ∙ other)),
          λ p. let same = eq.1 (pictures.0 p) in (count-is ∙ ap length same ∙ sym (ap (λ (w : Written). w.count) y.0), bytes-are ∙ same ∙ sym other),
        )

pub one-form-per-picture : OneFormPerPicture
one-form-per-picture f g out1 out2 a b h k =
    let x = done f out1 a h in
    let y = done g out2 b k in
    record {
      first = succeeds f out1 a x;
      second = succeeds g out2 b y;
      rest = (rest-kept f out1 a x, rest-kept g out2 b y);
      equal = equal f out1 a x g out2 b y;
      form = λ e r i. bytes-are f out1 a x ∙ ap canonical_bytes (content-unique a.0 e a.1 r (sym a.2 ∙ i));
      is-accepted = form f out1 a x;
      same = (same-pictures (written f out1 a x) f (form f out1 a x) a).1 (same-picture a.0);
      again = once_more f out1 a x;
      minimal = least f out1 a x;
    }
