-- The requirements hold.
use mathlib.Core.Path.{◌≡◌, refl, sym, ap, ◌∙◌, subst}
use mathlib.Core.Bool.{Bool, true, false}
use mathlib.Core.List.{List}
use mathlib.Core.Logic.{◌≢◌}
use Prim.Native.Nat.{ℕ, ◌≤◌}
use lib.Dec.{leb}
use lib.ListN.{length, get_or, replicate, length-replicate}
use Rattle.bpg_codec.specs.Outcome.{ok, ◌>>=◌, guard}
use Rattle.bpg_format.specs.Limits.{max_file}
use Rattle.bpg_format.specs.declared.answer.Written.{Written}
use Rattle.bpg_format.specs.Content.{Extension, Content}
use Rattle.bpg_format.specs.Syntax.{file_of}
use Rattle.bpg_format.specs.Rules.{Rules, Accepted}
use Rattle.bpg_format.specs.Records.{answer_of, read_file}
use Rattle.bpg_format.specs.Parts.{entry_of, payload_of}
use Rattle.bpg_format.specs.Write.{written_answer}
use Rattle.bpg_format.specs.Pictures.{picture_of, with_choices, canonical_content, canonical_bytes, canonical_outcome, canonical_file, canonical_buffer, canonical_size}
use Rattle.bpg_format.specs.Requirements.{no_extension, bytes}
use Rattle.bpg_format.proofs.ReadingLaws.{reads}
use Rattle.bpg_format.proofs.CanonicalLaws.{canonical-rules}
use Rattle.bpg_format.proofs.Requirements.{reading, one-form-per-picture}
use Rattle.bpg_payload_edits.specs.Edits.{AgreeOutside}
use Rattle.bpg_payload_edits.specs.Requirements.{Untouched, PayloadsTouchNothing, Metadata, MetadataTouchesNothing, CanonicalUntouched, CanonicalFormsTouched, CanonicalSizeUntouched}
use Rattle.bpg_payload_edits.proofs.EntryEdits.{NoControl, AllReplaced, same_tag, payload-kept}
use Rattle.bpg_payload_edits.proofs.ContentEdits.{with_entries, the-tag, file-as-long, edited-rules, same-record, files-agree, by-contents}
use Rattle.bpg_payload_edits.proofs.CanonicalEdits.{canonical_entries, canonical-tag, canonical-payload, canonical-edited, canonical-replaced}

-- ---- contents with payloads replaced

module _ (chosen : ℕ → Type 0) (c : Content) (r : Rules c) (xs : List Extension) (a : AllReplaced chosen c.extensions xs) (free : NoControl chosen c.extensions) where
  abbrev d : Content
  d = with_entries c xs

  rules : Rules (with_entries c xs)
  rules = edited-rules chosen c r xs a free

  same-reading : answer_of (ok (with_entries c xs)) ≡ answer_of (ok c)
  same-reading = rw (same-record chosen c r xs a)

  same_answer : read_file (file_of (with_entries c xs)) ≡ read_file (file_of c)
  same_answer = reading.the-answer d rules ∙ same-reading ∙ sym (reading.the-answer c r)

  untouched : Untouched chosen (file_of c) (file_of (with_entries c xs))
  untouched =
      record {
        accepted = (with_entries c xs, rules, refl);
        answer = same_answer;
        payloads = λ k h. reading.the-payload d rules k ∙ payload-kept chosen c.extensions xs a k h ∙ sym (reading.the-payload c r k);
        data-bytes = reading.the_data d rules ∙ sym (reading.the_data c r);
      }

-- ---- the theorem

pub payloads-touch-nothing : PayloadsTouchNothing
payloads-touch-nothing chosen f g a e = by-contents chosen (λ _ f g. Untouched chosen f g) (untouched chosen) f g a e

pub metadata-touches-nothing : MetadataTouchesNothing
unfolding entry_of
metadata-touches-nothing f g a as_long bytes agree =
    payloads-touch-nothing (Metadata f) f g a
    (record {
      not-animation = λ k h. h;
      as_long = as_long;
      bytes = bytes;
      outside = λ offset h out. agree offset h λ k t i. out (record { index = k; is-chosen = t; inside = i });
    })

-- ---- the canonical form

module _ (chosen : ℕ → Type 0) (c : Content) (r : Rules c) (xs : List Extension) (a : AllReplaced chosen c.extensions xs) (free : NoControl chosen c.extensions) where
  abbrev e : Content
  e = with_entries c xs

  -- the canonical content, and what takes the place of its entries
  abbrev can : Content
  can = canonical_content c

  abbrev ys : List Extension
  ys = canonical_entries c.control xs

  replaced : AllReplaced chosen (canonical_content c).extensions (canonical_entries c.control xs)
  replaced = canonical-replaced chosen c r xs a free

  can-rules : Rules (canonical_content c)
  can-rules = canonical-rules c r

  form : canonical_bytes (with_entries c xs) ≡ file_of (with_entries (canonical_content c) (canonical_entries c.control xs))
  unfolding canonical_bytes
  form = ap file_of (canonical-edited chosen c r xs a)

  form-as-long : length (canonical_bytes (with_entries c xs)) ≡ length (canonical_bytes c)
  unfolding canonical_bytes
  form-as-long = ap length form ∙ file-as-long chosen can can-rules ys replaced

  can-free : NoControl chosen (canonical_content c).extensions
  unfolding picture_of with_choices canonical_content
  can-free k h t = free k h (canonical-tag c.control c.extensions k ∙ t)

  -- a payload of the canonical form
  form-payload : (x : Content) → Rules x → (k : ℕ) → (get_or x.extensions k no_extension).tag ≢ 5 → payload_of (canonical_bytes x) k ≡ payload_of (file_of x) k
  unfolding picture_of with_choices canonical_content canonical_bytes
  form-payload x s k h =
      reading.the-payload (canonical_content x) (canonical-rules x s) k ∙ canonical-payload x.control x.extensions k h ∙ sym (reading.the-payload x s k)

  forms : CanonicalUntouched chosen (file_of c) (file_of (with_entries c xs)) (canonical_bytes c) (canonical_bytes (with_entries c xs))
  unfolding canonical_bytes
  forms =
      let tags : (k : ℕ) → (entry_of (file_of c) k).tag ≢ 5 → (get_or xs k no_extension).tag ≢ 5 =
      λ k h t. h (the-tag c r k ∙ sym (same_tag chosen c.extensions xs a k) ∙ t) in
      record {
        answer = ap read_file form ∙ same_answer chosen can can-rules ys replaced can-free;
        as_long = form-as-long;
        outside = subst (AgreeOutside chosen (file_of can)) (sym form) (files-agree chosen can can-rules ys replaced);
        first = λ k h. form-payload c r k (λ t. h (the-tag c r k ∙ t));
        second = λ k h. form-payload e (edited-rules chosen c r xs a free) k (tags k h);
      }

-- what canonicalizing writes for an accepted file
written_is : (f out : List ℕ) (a : Accepted f) → length (canonical_bytes a.0) ≤ length out
    → (canonical_file f out ≡ record { status = 0; offset = 0; count = length (canonical_bytes a.0) }) × (bytes (canonical_file f out) (canonical_buffer f out) ≡ canonical_bytes a.0)
written_is f out a h =
    let x = one-form-per-picture f f out out a a h h in
    let b = x.form a.0 a.1 a.2 in
    (x.first ∙ ap {B = Written} (λ (l : List ℕ). record { status = 0; offset = 0; count = length l }) b, b)

pub canonical-forms-touched : CanonicalFormsTouched
canonical-forms-touched chosen f g out1 out2 a e =
    by-contents chosen (λ c f g. length (canonical_bytes c) ≤ length out1 → length (canonical_bytes c) ≤ length out2
    → (canonical_file g out2 ≡ canonical_file f out1)
    × CanonicalUntouched chosen f g (bytes (canonical_file f out1) (canonical_buffer f out1)) (bytes (canonical_file g out2) (canonical_buffer g out2)))
    (λ c r xs z free h k.
    let d = with_entries c xs in
    let n = form-as-long chosen c r xs z free in
    let first = written_is (file_of c) out1 (c, r, refl) h in
    let second = written_is (file_of d) out2 (d, edited-rules chosen c r xs z free, refl) (rw n k) in (
      second.0 ∙ ap {B = Written} (λ (l : ℕ). record { status = 0; offset = 0; count = l }) n ∙ sym first.0,
      rw (first.1, second.1) (forms chosen c r xs z free),
    ))
    f g a e

-- the size says how long the form is, and nothing else of it
size_of : (c : Content) → Rules c → (n : ℕ) → length (canonical_bytes c) ≡ n
    → canonical_size (file_of c) ≡ written_answer (guard (leb n max_file) 20 0 >>= λ _. ok (replicate n 0))
unfolding canonical_size canonical_outcome
size_of c r n e = rw (reads c r, e) (by (leb n max_file))
  where
    by : (t : Bool) → written_answer (guard t 20 0 >>= λ _. ok (canonical_bytes c)) ≡ written_answer (guard t 20 0 >>= λ _. ok (replicate n 0))
    by true = ap {B = Written} (λ (l : ℕ). record { status = 0; offset = 0; count = l }) (e ∙ sym (length-replicate n 0))
    by false = refl

pub canonical-size-untouched : CanonicalSizeUntouched
canonical-size-untouched chosen f g a e =
    by-contents chosen (λ _ f g. canonical_size g ≡ canonical_size f)
    (λ c r xs z free.
    let n = length (canonical_bytes c) in
    size_of (with_entries c xs) (edited-rules chosen c r xs z free) n (form-as-long chosen c r xs z free) ∙ sym (size_of c r n refl))
    f g a e
