-- The requirements of request 10/13 for a file, proved.
use mathlib.Core.Path.{◌≡◌, refl, sym, ap, ◌∙◌, subst}
use mathlib.Core.Bool.{Bool, true, false, ◌&&◌}
use mathlib.Core.List.{List, [], ◌∷◌, map}
use mathlib.Core.Logic.{inl, inr}
use Prim.Native.Nat.{ℕ, ◌≤◌, ◌<◌}
use native.Mathlib.Omega.{arith}
use lib.Dec.{eqb}
use lib.ListN.{length, take, get_or, length-append, length-map}
use borrow.Author.Tests.{leb-true, leb-false, le-leb, lt-leb, eqb-true, eqb-false}
use Rattle.bpg_codec.specs.Lawful.{All, Byte}
use Rattle.bpg_format.specs.declared.record.Entry.{Entry}
use Rattle.bpg_format.specs.declared.answer.Written.{Written}
use Rattle.bpg_format.specs.Zero.{zero_entry}
use Rattle.bpg_format.specs.Records.{bytes_in, used_entries, read_file}
use Rattle.bpg_format.specs.Parts.{record_in, entry_of, payload_of}
use Rattle.bpg_format.proofs.Requirements.{reading, ranges}
use Rattle.bpg_segment_rules.specs.Calls.{export_payloads, export_buffer}
use Rattle.bpg_segment_rules.specs.Requirements.{Answered}
use Rattle.bpg_segment_rules.proofs.TestLaws.{by_cases}
use Rattle.bpg_segment_rules.proofs.Requirements.{round_trip}
use Rattle.bpg_segment_export.specs.Calls.{at_most_one, tagged, payloads_in, once_each, export_segments, exported_buffer}
use Rattle.bpg_segment_export.specs.Requirements.{Twice, OneTwice, OfFile, OfFiles, Order, FromFile}
use Rattle.bpg_segment_export.proofs.OnceLaws.{HasAt, two, pair, only, none}
use Rattle.bpg_segment_export.proofs.CallLaws.{file-unread, file-twice, file-payloads}

-- an accepted file: its entries in use, as many as its record says
module _ (f : List ℕ) (b : All Byte f) (z : (read_file f).status ≡ 0) where
  abbrev used : List Entry
  used = used_entries (record_in f)

  many : length used ≡ (record_in f).entry_count
  many =
      let d = (record_in f).«data» in
      omega (arith, (ranges f (reading.only-accepted f b z)).last.0, length-append (map (λ (e : Entry). e.payload) used) (d ∷ []), length-map used (λ (e : Entry). e.payload))

  -- an entry of the file by its index
  has : (tag k : ℕ) → k < (record_in f).entry_count → (entry_of f k).tag ≡ tag → HasAt tag used k
  unfolding entry_of
  has tag k n t = (omega (arith, n, many), t)

  twice-more : (tag : ℕ) → Twice f tag → at_most_one (tagged f tag) ≡ false
  twice-more tag t =
      lt-leb (length (tagged f tag)) 1
      (omega (arith, two tag used t.i t.j t.apart (has tag t.i (omega (arith, t.apart, t.inside)) t.first) (has tag t.j t.inside t.second)))

  more-twice : (tag : ℕ) → at_most_one (tagged f tag) ≡ false → Twice f tag
  unfolding entry_of
  more-twice tag h =
      let n : 1 < length (tagged f tag) = leb-false (length (tagged f tag)) 1 h in
      let p = pair tag used (omega (arith, n)) in
      record { i = p.0; j = p.1; apart = p.2; inside = omega (arith, p.4.0, many); first = p.3.1; second = p.4.1 }

  once-only : (tag : ℕ) → (Twice f tag → ⊥) → length (tagged f tag) ≤ 1
  once-only tag h = by_cases (at_most_one (tagged f tag)) (λ t. leb-true (length (tagged f tag)) 1 t) (λ t. absurd (h (more-twice tag t)))

  of-file : OfFile f
  unfolding payload_of entry_of
  of-file =
      record {
        payload = λ tag k h n t. ap (λ (e : Entry). bytes_in f e.payload) (only tag used k (once-only tag h) (omega (arith, n, many), t));
        absent = λ tag h. ap (λ (es : List Entry). bytes_in f (get_or es 0 zero_entry).payload) (none tag used (λ k n. h k (omega (arith, n, many))));
      }

  -- the three tags
  one-twice : OneTwice f → once_each f ≡ false
  one-twice (inl t) = rw (twice-more 1 t)
  one-twice (inr (inl t)) = second (at_most_one (tagged f 1)) (at_most_one (tagged f 3)) _ (twice-more 3 t)
    where
      second : (x y w : Bool) → y ≡ false → (x && (y && w)) ≡ false
      second true y w e = rw e
      second false y w e = refl
  one-twice (inr (inr t)) = third (at_most_one (tagged f 1)) (at_most_one (tagged f 3)) _ (twice-more 2 t)
    where
      third : (x y w : Bool) → w ≡ false → (x && (y && w)) ≡ false
      third true true w e = e
      third true false w e = refl
      third false y w e = refl

  once : (tag : ℕ) → (Twice f tag → ⊥) → at_most_one (tagged f tag) ≡ true
  once tag h = le-leb (length (tagged f tag)) 1 (once-only tag h)

  none-twice : (OneTwice f → ⊥) → once_each f ≡ true
  none-twice h = rw (once 1 (λ t. h (inl t)), once 3 (λ t. h (inr (inl t))), once 2 (λ t. h (inr (inr t))))

pub of-files : OfFiles
of-files = of-file

pub order : Order
order =
    record {
      read = file-unread;
      twice = λ f out b z t. file-twice f out z (one-twice f b z t);
      payloads = λ f out b z h. file-payloads f out z (none-twice f b z h);
    }

-- a success is that of the three payloads
exported : (f out : List ℕ) → (export_segments f out).status ≡ 0
    → (export_segments f out ≡ export_payloads (payloads_in f) out) × (exported_buffer f out ≡ export_buffer (payloads_in f) out)
exported f out s =
    by_cases (eqb (read_file f).status 0)
    (λ t.
    let z = eqb-true (read_file f).status 0 t in
    by_cases (once_each f) (λ o. file-payloads f out z o)
    (λ o. absurd (let e : 35 ≡ 0 = ap (λ (w : Written). w.status) (sym (file-twice f out z o).0) ∙ s in omega arith)))
    (λ t. let n = eqb-false (read_file f).status 0 t in absurd (n (ap (λ (w : Written). w.status) (sym (file-unread f out n).0) ∙ s)))

pub from-file : FromFile
from-file f out1 out2 s h =
    let e = exported f out1 s in
    subst (λ (w : Written). Answered (take w.count (exported_buffer f out1)) out2 (payloads_in f)) (sym e.0)
    (subst (λ (l : List ℕ). Answered (take (export_payloads (payloads_in f) out1).count l) out2 (payloads_in f)) (sym e.1)
    (round_trip.from-buffer (payloads_in f) out1 out2 (ap (λ (w : Written). w.status) (sym e.0) ∙ s) h))
