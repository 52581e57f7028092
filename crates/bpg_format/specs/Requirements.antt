-- The three requirements (the order's demands), in their own words and as types over the definitions that the calls' contracts cite.
-- `proofs/Requirements` proves them.
use Rattle.std.specs.Prelude.{◌≡◌, List, [], ◌++◌, ◌↔◌, ◌≢◌, ℕ, ◌+◌, ◌≤◌, ◌<◌, length, take, drop, get_or}
use Rattle.bpg_codec.specs.Outcome.{ok}
use Rattle.bpg_codec.specs.Lawful.{All, Byte}
use Rattle.bpg_format.specs.declared.record.Range.{Range}
use Rattle.bpg_format.specs.declared.record.Record.{Record}
use Rattle.bpg_format.specs.declared.answer.Written.{Written}
use Rattle.bpg_format.specs.Zero.{range, refused_reading, refused_written}
use Rattle.bpg_format.specs.Content.{Extension, Content}
use Rattle.bpg_format.specs.Syntax.{file_of}
use Rattle.bpg_format.specs.Rules.{Rules, Accepted}
use Rattle.bpg_format.specs.Read.{ReadingStatus}
use Rattle.bpg_format.specs.Records.{content_of, answer_of, read_file}
use Rattle.bpg_format.specs.Parts.{entry_of, payload_of, data_of, ranges_of, range_end, InOrder, joined, Inside}
use Rattle.bpg_format.specs.Write.{write_file, write_buffer, write_size, WritingStatus, Typed, Writable}
use Rattle.bpg_format.specs.Pictures.{canonical_bytes, SamePicture, canonical_file, canonical_buffer, canonical_size, CanonicalizingStatus}

-- 1. "Every call takes every input. A bad file or record is refused with the number and place in document 01, any record returned is then
-- all zero, and lent room keeps its old contents; an index past the last entry gives an empty part."
--
-- That every call takes every input is that no public function has a precondition. Here stands that a refusal's number is one of document 01's;
-- which one, and at which place, is what `read_content` and `write_outcome` say, step by step.
pub record Refusals : Type 0 where
  -- "any record returned is then all zero"
  pub reading : (f : List ℕ) → (read_file f).status ≢ 0 → read_file f ≡ refused_reading (read_file f).status (read_file f).offset
  -- "with the number .. in document 01"
  pub reading-number : (f : List ℕ) → (read_file f).status ≢ 0 → ReadingStatus (read_file f).status
  -- "lent room keeps its old contents"
  pub writing : (r : Record) (source out : List ℕ) → (write_file r source out).status ≢ 0
      → (write_file r source out ≡ refused_written (write_file r source out).status 0) × WritingStatus (write_file r source out).status × (write_buffer r source out ≡ out)
  -- canonicalizing refuses what reading refuses, with reading's number and place; and an accepted file, with 20 at 0, where the buffer does not
  -- hold its canonical form
  pub canonicalizing : (f out : List ℕ) → (read_file f).status ≢ 0
      → (canonical_file f out ≡ refused_written (read_file f).status (read_file f).offset) × (canonical_buffer f out ≡ out)
  pub canonicalizing-small : (f out : List ℕ) (a : Accepted f) → length out < length (canonical_bytes a.0)
      → (canonical_file f out ≡ refused_written 20 0) × (canonical_buffer f out ≡ out)
  -- it gives no other refusal
  pub canonicalizing-number : (f out : List ℕ) → (canonical_file f out).status ≢ 0 → CanonicalizingStatus (canonical_file f out).status
  -- "an index past the last entry gives an empty part"; so does a refused file
  pub past-last : (f : List ℕ) (k : ℕ) → (read_file f).«record».entry_count ≤ k → payload_of f k ≡ []
  pub refused-parts : (f : List ℕ) (k : ℕ) → (read_file f).status ≢ 0 → (payload_of f k ≡ []) × (data_of f ≡ [])

-- what stands for an entry past the last: its payload is empty
abbrev pub no_extension : Extension
no_extension = record { tag = 0; payload = [] }

-- 2. "A file is read as a record exactly when it meets BPG 0.9.5 as document 01 condenses it, shortest integers included; the record is the
-- one that syntax gives."
pub record ExactReading : Type 0 where
  pub accepted : (f : List ℕ) → Accepted f → (read_file f).status ≡ 0
  -- a file is a list of bytes
  pub only-accepted : (f : List ℕ) → All Byte f → (read_file f).status ≡ 0 → Accepted f
  -- the whole answer, for the one content whose file it is: status and offset 0, the coded size, the record
  pub the-answer : (c : Content) → Rules c → read_file (file_of c) ≡ answer_of (ok c)
  -- that record over the file gives that content
  pub the-content : (c : Content) → Rules c → content_of (read_file (file_of c)).«record» (file_of c) ≡ c
  pub one-content : (c d : Content) → Rules c → Rules d → file_of c ≡ file_of d → c ≡ d
  -- the parts that calls hand out are the content's
  pub the-payload : (c : Content) → Rules c → (k : ℕ) → payload_of (file_of c) k ≡ (get_or c.extensions k no_extension).payload
  pub the_data : (c : Content) → Rules c → data_of (file_of c) ≡ c.hevc_data

-- "Each accepted record is written as the file the syntax gives, and read back with the same content."
pub record ExactWriting : Type 0 where
  pub exactly : (r : Record) (source out : List ℕ) → Typed r → All Byte source → ((write_file r source out).status ≡ 0) ↔ Writable (length out) r source
  -- the file from the start of the buffer, and the rest of the buffer as it was
  pub bytes : (r : Record) (source out : List ℕ) → Writable (length out) r source
      → let file = file_of (content_of r source) in
      (write_file r source out ≡ record { status = 0; offset = 0; count = length file }) × (write_buffer r source out ≡ file ++ drop (length file) out)
  -- what stands in the buffer then is read with status 0, as a record of the same content
  pub read_back : (r : Record) (source out : List ℕ) → Writable (length out) r source
      → let file = take (write_file r source out).count (write_buffer r source out) in
      (read_file file ≡ answer_of (ok (content_of r source))) × (content_of (read_file file).«record» file ≡ content_of r source)
  -- the record of an accepted file is written over that file, as that file
  pub same-file : (f out : List ℕ) → Accepted f → length f ≤ length out
      → (write_file (read_file f).«record» f out ≡ record { status = 0; offset = 0; count = length f })
      × (write_buffer (read_file f).«record» f out ≡ f ++ drop (length f) out)

-- "The payload and data parts lie in the file in order, and no two share a byte."
module _ (f : List ℕ) where
  -- the payloads' ranges and the data's, of the record that reading answers
  abbrev pub parts : List Range
  parts = ranges_of (read_file f).«record»

  abbrev pub part : ℕ → Range
  part i = get_or parts i (range 0 0)

  pub record Ranges : Type 0 where
    pub in_order : InOrder parts (length f)
    pub no-shared-byte : (offset i j : ℕ) → i < length parts → j < length parts → Inside offset (part i) → Inside offset (part j) → i ≡ j
    -- `payload` hands out part k and `data` the last: each begins at its part's start (the calls' contracts) and has its length
    pub payloads : (k : ℕ) → k < (read_file f).«record».entry_count → ((entry_of f k).payload ≡ part k) × (length (payload_of f k) ≡ (part k).length)
    pub last : (length parts ≡ (read_file f).«record».entry_count + 1)
        × ((read_file f).«record».«data» ≡ part (read_file f).«record».entry_count) × (length (data_of f) ≡ (part (read_file f).«record».entry_count).length)
    -- with what lies between them they make up the file, of which the data is the end
    pub whole : joined 0 parts f ≡ f
    pub data-last : range_end (read_file f).«record».«data» ≡ length f

abbrev pub RangesApart : Type 0
RangesApart = (f : List ℕ) → Accepted f → Ranges f

-- 3. "Take any two accepted files, and tidy each into room that holds its tidy form, whatever bytes that room had before."

-- the bytes that were written, of an answer and the buffer at exit
abbrev pub bytes : Written → (after : List ℕ) → List ℕ
bytes w after = take w.count after

-- `out1` and `out2` are the buffers (the demand's room) before the two calls, `w1` and `w2` the answers, `after1` and `after2` the buffers at exit
pub record Canonicalized (f g out1 out2 : List ℕ) (w1 w2 : Written) (after1 after2 : List ℕ) : Type 0 where
  -- "Both tidyings succeed." A success has place 0, counts its bytes, and leaves the rest of the buffer as it was
  pub first : w1 ≡ record { status = 0; offset = 0; count = length (bytes w1 after1) }
  pub second : w2 ≡ record { status = 0; offset = 0; count = length (bytes w2 after2) }
  pub rest : (drop w1.count after1 ≡ drop w1.count out1) × (drop w2.count after2 ≡ drop w2.count out2)
  -- "Their counts and the bytes they write are equal exactly when the two files show the same picture, by document 01's definition of that."
  pub equal : ((w1.count ≡ w2.count) × (bytes w1 after1 ≡ bytes w2 after2)) ↔ SamePicture f g
  -- "The bytes written for a file are its tidy form: an accepted file of the same picture."
  pub form : (c : Content) → Rules c → f ≡ file_of c → bytes w1 after1 ≡ canonical_bytes c
  pub is-accepted : Accepted (bytes w1 after1)
  pub same : SamePicture (bytes w1 after1) f
  -- "Tidied again, into room that holds it, it gives the same count and the same bytes."
  pub again : (out3 : List ℕ) → length (bytes w1 after1) ≤ length out3
      → let w3 = canonical_file (bytes w1 after1) out3 in
      (w3.status ≡ 0) × (w3.count ≡ w1.count) × (bytes w3 (canonical_buffer (bytes w1 after1) out3) ≡ bytes w1 after1)
  -- "Every accepted file of that picture has at least as many bytes as the count that tidying answered."
  pub minimal : (h : List ℕ) → Accepted h → SamePicture h f → w1.count ≤ length h

-- "The premise is only that the files are accepted and that each room holds the tidy form written into it."
abbrev pub OneFormPerPicture : Type 0
OneFormPerPicture =
    (f g out1 out2 : List ℕ) (a : Accepted f) (b : Accepted g) → length (canonical_bytes a.0) ≤ length out1 → length (canonical_bytes b.0) ≤ length out2
    → Canonicalized f g out1 out2 (canonical_file f out1) (canonical_file g out2) (canonical_buffer f out1) (canonical_buffer g out2)

-- Beside the three: the size before the buffer, which `proofs/Sizes` proves. `size` is what a call answers to every buffer that is large enough,
-- `answer` what it answers to a given one.
pub record SizeBefore (size : Written) (answer : (out : List ℕ) → Written) : Type 0 where
  -- it is the call's answer, whenever that is not 20
  pub same : (out : List ℕ) → (answer out).status ≢ 20 → size ≡ answer out
  pub never-small : size.status ≢ 20
  -- and a buffer of at least that count is large enough
  pub enough : (out : List ℕ) → size.status ≡ 0 → size.count ≤ length out → answer out ≡ size

pub record Sizes : Type 0 where
  pub writing : (r : Record) (source : List ℕ) → SizeBefore (write_size r source) (write_file r source)
  -- a file is a list of bytes
  pub canonicalizing : (f : List ℕ) → All Byte f → SizeBefore (canonical_size f) (canonical_file f)
