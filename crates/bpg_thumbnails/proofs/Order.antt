-- The refusal is that of the first thumbnail with a fault: each is refused inside its payload, and payloads lie in order.
use mathlib.Core.Path.{◌≡◌, refl, sym, ap, ◌∙◌, subst}
use mathlib.Core.Bool.{Bool, true, false}
use mathlib.Core.List.{List, [], ◌∷◌}
use mathlib.Core.Logic.{◌⊎◌, inl, inr, ⊎_elim}
use Prim.Native.Nat.{ℕ, zero, suc, ◌+◌, ◌≤◌, ◌<◌}
use native.Mathlib.Omega.{arith}
use lib.Dec.{T, eqb}
use lib.ListN.{length, drop, get_or, length-take, get_or-eq_default}
use borrow.Author.Tests.{eq-eqb, eqb-true}
use Rattle.bpg_codec.specs.Select.{select}
use Rattle.bpg_codec.specs.Outcome.{Outcome, ok, error, ◌>>=◌, guard}
use Rattle.bpg_codec.specs.Lawful.{All, Byte}
use Rattle.bpg_codec.proofs.Lists.{either_way}
use Rattle.bpg_codec.proofs.Outcome.{error-not-ok}
use Rattle.bpg_codec.proofs.Refusals.{Refuses, refuses-error, refuses-bind}
use Rattle.bpg_codec.proofs.Tokens.{all_take, all_drop}
use Rattle.bpg_format.specs.declared.record.Entry.{Entry}
use Rattle.bpg_format.specs.Zero.{zero_entry}
use Rattle.bpg_format.specs.Rules.{Accepted}
use Rattle.bpg_format.specs.Records.{used_entries, read_file}
use Rattle.bpg_format.specs.Parts.{record_in, entry_of, payload_of, range_end}
use Rattle.bpg_format.proofs.Requirements.{reading, ranges}
use Rattle.bpg_thumbnails.specs.declared.answer.Checked.{Checked}
use Rattle.bpg_thumbnails.specs.Thumbnails.{levels_below, is_accepted, size_of, is_smaller, with_tag4, thumbnails, each, check_thumbnail, check_entries, check_file}
use Rattle.bpg_thumbnails.specs.Nested.{HasThumbnail, entry, Within, outer, inner, Smaller}
use Rattle.bpg_thumbnails.specs.Calls.{refused, check_thumbnails}
use Rattle.bpg_thumbnails.specs.Requirements.{Fault, too-deep, refused-itself, not-smaller, Faulty}
use Rattle.bpg_thumbnails.proofs.EachLaws.{refuses-test, each-sound, each-refuses, tagged-sound, tagged-full}
use Rattle.bpg_thumbnails.proofs.Passing.{smaller-sound}

-- ---- the entries of an accepted file

module _ (g : List ℕ) (k : ℕ) (t : (entry_of g k).tag ≡ 4) where
  -- the entry past the last has tag 0
  in_use : k < length (used_entries (record_in g))
  unfolding entry_of
  in_use =
      either_way (length (used_entries (record_in g))) k
      (λ h. absurd (omega (arith, t, ap (λ (e : Entry). e.tag) (get_or-eq_default (used_entries (record_in g)) zero_entry h))))
      (λ h. h)

  is-entry : k < (record_in g).entry_count
  is-entry = omega (arith, in_use, length-take (record_in g).entry_count (record_in g).entries)

module _ (g : List ℕ) (bytes : All Byte g) where
  payload-bytes : (k : ℕ) → All Byte (payload_of g k)
  unfolding payload_of
  payload-bytes k = all_take Byte (entry_of g k).payload.length _ (all_drop Byte (entry_of g k).payload.start g bytes)

  module _ (z : (read_file g).status ≡ 0) where
    accepted : Accepted g
    accepted = reading.only-accepted g bytes z

    inside : (k : ℕ) → k < (record_in g).entry_count → range_end (entry_of g k).payload ≤ length g
    inside k h = let a = ranges g accepted in rw (a.payloads k h).0 (a.in_order.within k (omega (arith, a.last.0)))

    apart : (i k : ℕ) → i < k → k < (record_in g).entry_count → range_end (entry_of g i).payload ≤ (entry_of g k).payload.start
    apart i k s h =
        let a = ranges g accepted in
        rw ((a.payloads i (omega arith)).0, (a.payloads k h).0) (a.in_order.apart i k s (omega (arith, a.last.0)))

-- ---- a refusal lies in the payload

abbrev InPayload : (o : ℕ) → Entry → ℕ → ℕ → Type 0
InPayload o e s q = (o + e.payload.start ≤ q) × (q ≤ o + range_end e.payload)

payload-length : (g : List ℕ) (k : ℕ) → length (payload_of g k) ≤ (entry_of g k).payload.length
unfolding payload_of
payload-length g k = omega (arith, length-take (entry_of g k).payload.length (drop (entry_of g k).payload.start g))

in-payload : (left : ℕ) (g : List ℕ) (o : ℕ) → All Byte g → (k : ℕ) → Refuses (InPayload o (entry_of g k)) (check_thumbnail left g o (entry_of g k))
unfolding check_thumbnail payload_of entry_of
in-payload zero g o bytes k = refuses-error (InPayload o (entry_of g k)) 27 _ (omega arith, omega arith)
in-payload (suc left) g o bytes k =
    let h = payload_of g k in
    let e = entry_of g k in
    refuses-test (InPayload o e) (is_accepted h) 28 _ _ (λ _. (omega arith, omega arith)) λ a.
    refuses-test (InPayload o e) (is_smaller (size_of (record_in h)) (size_of (record_in g))) 29 _ _ (λ _. (omega arith, omega arith)) λ b.
    each-refuses (check_thumbnail left h _) (InPayload o e) (thumbnails h) (tagged-full _ (used_entries (record_in h)) λ j t s q w.
    let i = in-payload left h (o + e.payload.start) (payload-bytes g bytes k) j s q w in
    let n = inside h (payload-bytes g bytes k) (eqb-true (read_file h).status 0 a) j (is-entry h j t) in
    (omega (arith, i), omega (arith, i, n, payload-length g k)))

-- ---- the first of several: each refused within its bounds, which lie in order

record InOrder (check : Entry → Outcome (Unit {0})) (low high : Entry → ℕ) (es : List Entry) : Type 0 where
  bounds : (k : ℕ) → Refuses (λ s q. (low (get_or es k zero_entry) ≤ q) × (q ≤ high (get_or es k zero_entry))) (check (get_or es k zero_entry))
  apart : (i k : ℕ) → i < k → k < length es → high (get_or es i zero_entry) ≤ low (get_or es k zero_entry)

module _ (check : Entry → Outcome (Unit {0})) (low high : Entry → ℕ) where
  first-refused : (es : List Entry) → InOrder check low high es → (k : ℕ) → k < length es → (get_or es k zero_entry).tag ≡ 4
      → (s q : ℕ) → check (get_or es k zero_entry) ≡ error s q → Refuses (λ _ r. r ≤ q) (each check (with_tag4 es))
  unfolding each with_tag4 select
  first-refused [] b k h t s q e = absurd (omega arith)
  first-refused (x ∷ es) b zero h t s q e = rw (eq-eqb x.tag 4 t, e) (refuses-error (λ _ r. r ≤ q) s q (omega arith))
  first-refused (x ∷ es) b (suc k) h t s q e =
      by (first-refused es (record { bounds = λ i. b.bounds (suc i); apart = λ i j n m. b.apart (suc i) (suc j) (omega arith) (omega arith) }) k (omega arith) t s q e)
      (eqb x.tag 4)
    where
      by : Refuses (λ _ r. r ≤ q) (each check (with_tag4 es)) → (c : Bool) → Refuses (λ _ r. r ≤ q) (each check (select c (x ∷ with_tag4 es) (with_tag4 es)))
      by rest true =
          refuses-bind (λ _ r. r ≤ q) (check x) _
          (λ u r w. omega (arith, (b.bounds 0 u r w).1, b.apart 0 (suc k) (omega arith) h, (b.bounds (suc k) s q e).0)) λ _. rest
      by rest false = rest

-- ---- a file that the check may enter: what refuses its thumbnails is no earlier than q

record Open (q l : ℕ) (g : List ℕ) (o : ℕ) : Type 0 where
  left : ℕ
  level : l + left ≡ 4
  bytes : All Byte g
  accepted : (read_file g).status ≡ 0
  later : Refuses (λ _ r. q ≤ r) (check_entries left g o)

module _ {q l : ℕ} {g : List ℕ} {o : ℕ} (x : Open q l g o) (k : ℕ) (t : (entry_of g k).tag ≡ 4) where
  abbrev offset : ℕ
  offset = o + (entry_of g k).payload.start

  in_order : InOrder (check_thumbnail x.left g o) (λ e. o + e.payload.start) (λ e. o + range_end e.payload) (used_entries (record_in g))
  unfolding entry_of
  in_order =
      record {
        bounds = in-payload x.left g o x.bytes;
        apart = λ i j n m.
            let c : j < (record_in g).entry_count = omega (arith, length-take (record_in g).entry_count (record_in g).entries) in
            omega (arith, apart g x.bytes x.accepted i j n c);
      }

  -- a refusal of entry k is no earlier
  later-too : Refuses (λ _ r. q ≤ r) (check_thumbnail x.left g o (entry_of g k))
  unfolding entry_of
  later-too s r e = by (check_entries x.left g o) refl
    where
      by : (m : Outcome (Unit {0})) → check_entries x.left g o ≡ m → q ≤ r
      by (ok u) w = absurd (error-not-ok (sym e ∙ tagged-sound _ (used_entries (record_in g)) (each-sound (check_thumbnail x.left g o) _ w) k t))
      by (error s' r') w = omega (arith, x.later s' r' w, first-refused _ _ _ (used_entries (record_in g)) in_order k (in_use g k t) t s r e s' r' w)

  abbrev thumbnail : List ℕ
  thumbnail = payload_of g k

  -- it is not entered because of a fault, which is no earlier; or it is entered
  abbrev Entering : Type 0
  Entering = (q ≤ offset) ⊎ (Open q (suc l) thumbnail offset × Smaller thumbnail g)

  tested : (n : ℕ) → l + suc n ≡ 4 → (a b : Bool) → is_accepted thumbnail ≡ a → is_smaller (size_of (record_in thumbnail)) (size_of (record_in g)) ≡ b
      → Refuses (λ _ r. q ≤ r) (guard a 28 offset >>= λ _. guard b 29 offset >>= λ _. check_entries n thumbnail offset) → Entering
  tested n e false b c d h = inl (h 28 offset refl)
  tested n e true false c d h = inl (h 29 offset refl)
  tested n e true true c d h =
      inr (
        record { left = n; level = omega arith; bytes = payload-bytes g x.bytes k; accepted = eqb-true (read_file thumbnail).status 0 c; later = h },
        smaller-sound thumbnail g (subst T (sym d) tt),
      )

  entering : (n : ℕ) → l + n ≡ 4 → Refuses (λ _ r. q ≤ r) (check_thumbnail n g o (entry_of g k)) → Entering
  unfolding check_thumbnail payload_of
  entering zero e h = inl (h 27 offset refl)
  entering (suc n) e h = tested n e (is_accepted thumbnail) (is_smaller (size_of (record_in thumbnail)) (size_of (record_in g))) refl refl h

  step : Entering
  step = entering x.left x.level later-too

-- ---- every file within f

module _ (f : List ℕ) (bytes : All Byte f) (z : (read_file f).status ≡ 0) where
  abbrev answered : ℕ
  answered = (check_thumbnails f).offset

  answers : (s r : ℕ) → check_entries levels_below f 0 ≡ error s r → check_thumbnails f ≡ refused s r
  unfolding check_thumbnails check_file
  answers s r e = rw (eq-eqb (read_file f).status 0 z, e)

  answered-later : Refuses (λ _ r. answered ≤ r) (check_entries levels_below f 0)
  answered-later s r e = omega (arith, ap (λ (x : Checked). x.offset) (answers s r e))

  reach : {l : ℕ} {g : List ℕ} {o : ℕ} → Within f l g o → (answered ≤ o) ⊎ Open answered l g o
  reach outer = inr (record { left = levels_below; level = refl; bytes = bytes; accepted = z; later = answered-later })
  reach (inner l g o h p w (entry k t)) = ⊎_elim (λ n. inl (omega arith)) (λ x. ⊎_elim inl (λ y. inr y.0) (step x k t)) (reach w)

blamed : {q l : ℕ} {g : List ℕ} {o : ℕ} {h : List ℕ} {p : ℕ} → HasThumbnail g h p → Open q l g o → (s : ℕ) → Fault (suc l) g h s → q ≤ o + p
blamed (entry k t) x s (too-deep e) = ⊎_elim (λ n. n) (λ y. absurd (omega (arith, e, y.0.level))) (step x k t)
blamed (entry k t) x s (refused-itself e n) = ⊎_elim (λ n. n) (λ y. absurd (n y.0.accepted)) (step x k t)
blamed (entry k t) x s (not-smaller e z n) = ⊎_elim (λ n. n) (λ y. absurd (n y.1)) (step x k t)

pub first : (f : List ℕ) → All Byte f → (read_file f).status ≡ 0 → (s o : ℕ) → Faulty f s o → (check_thumbnails f).offset ≤ o
first f bytes z s o y =
    ⊎_elim (λ n. omega (arith, n, y.at)) (λ x. omega (arith, blamed y.has x s y.fault, y.at)) (reach f bytes z y.within)
