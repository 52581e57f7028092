-- Payloads and data of a file lie in it in order, and no two share a byte.
use mathlib.Core.Path.{◌≡◌, refl, sym, ap, ◌∙◌, subst}
use mathlib.Core.List.{List, [], ◌∷◌, ◌++◌, map}
use Prim.Native.Nat.{ℕ, zero, suc, ◌+◌, ◌-◌, ◌≤◌, ◌<◌}
use native.Mathlib.Omega.{arith}
use lib.ListN.{length, drop, get_or, length-append, length-map, length-take, length-drop, take-append-drop}
use lib.Seq.{drop-drop}
use Rattle.bpg_ue7.specs.Ue7.{ue7_bytes}
use Rattle.bpg_codec.proofs.Lists.{either_way}
use Rattle.bpg_format.specs.declared.record.Range.{Range}
use Rattle.bpg_format.specs.declared.record.Entry.{Entry}
use Rattle.bpg_format.specs.Zero.{range, zero_entry}
use Rattle.bpg_format.specs.Content.{Extension, Content}
use Rattle.bpg_format.specs.Syntax.{block_bytes, file_of}
use Rattle.bpg_format.specs.Rules.{Rules}
use Rattle.bpg_format.specs.Records.{entries_at, block_start, data_start, record_of, used_entries, bytes_in}
use Rattle.bpg_format.specs.Parts.{ranges_of, range_end, InOrder, joined, Inside}
use Rattle.bpg_format.proofs.RuleLaws.{entry-size}
use Rattle.bpg_format.proofs.RecordLaws.{used-entries, entries-length, before_data, data-file, data-length}

abbrev payloads : List Entry → List Range
payloads es = map (λ (e : Entry). e.payload) es

-- each starts at or after the end of the one before, from p on, and the last ends by e
abbrev Ascending : ℕ → List Range → ℕ → Type 0
Ascending p [] e = p ≤ e
Ascending p (r ∷ rs) e = (p ≤ r.start) × Ascending (range_end r) rs e

later : (p q : ℕ) (rs : List Range) (e : ℕ) → q ≤ p → Ascending p rs e → Ascending q rs e
later p q [] e h a = omega arith
later p q (r ∷ rs) e h a = (omega arith, a.1)

ends : (p : ℕ) (rs : List Range) (e : ℕ) → Ascending p rs e → p ≤ e
ends p [] e a = a
ends p (r ∷ rs) e a = omega (arith, a.0, ends (range_end r) rs e a.1)

starts-after : (p : ℕ) (rs : List Range) (e j : ℕ) → Ascending p rs e → j < length rs → p ≤ (get_or rs j (range 0 0)).start
starts-after p [] e j a h = absurd (omega arith)
starts-after p (r ∷ rs) e zero a h = a.0
starts-after p (r ∷ rs) e (suc j) a h = omega (arith, a.0, starts-after (range_end r) rs e j a.1 (omega arith))

in_order : (p : ℕ) (rs : List Range) (e : ℕ) → Ascending p rs e → InOrder rs e
in_order p rs e a = record { apart = apart p rs a; within = within p rs a }
  where
    apart : (p : ℕ) (rs : List Range) → Ascending p rs e → (i j : ℕ) → i < j → j < length rs → range_end (get_or rs i (range 0 0)) ≤ (get_or rs j (range 0 0)).start
    apart p [] a i j h k = absurd (omega arith)
    apart p (r ∷ rs) a i zero h k = absurd (omega arith)
    apart p (r ∷ rs) a zero (suc j) h k = starts-after (range_end r) rs e j a.1 (omega arith)
    apart p (r ∷ rs) a (suc i) (suc j) h k = apart (range_end r) rs a.1 i j (omega arith) (omega arith)

    within : (p : ℕ) (rs : List Range) → Ascending p rs e → (i : ℕ) → i < length rs → range_end (get_or rs i (range 0 0)) ≤ e
    within p [] a i h = absurd (omega arith)
    within p (r ∷ rs) a zero h = ends (range_end r) rs e a.1
    within p (r ∷ rs) a (suc i) h = within (range_end r) rs a.1 i (omega arith)

join : (p : ℕ) (rs : List Range) (e : ℕ) (f : List ℕ) → Ascending p rs e → joined p rs f ≡ drop p f
join p [] e f a = refl
join p (r ∷ rs) e f a =
    let start : p + (r.start - p) ≡ r.start = omega (arith, a.0) in
    let gap = sym (drop-drop (r.start - p) p f ∙ ap (λ (n : ℕ). drop n f) start) in
    let tail = join (range_end r) rs e f a.1 ∙ sym (drop-drop r.length r.start f) in
    let whole : bytes_in f r ++ joined (range_end r) rs f ≡ drop r.start f = rw tail (take-append-drop r.length (drop r.start f)) in
    rw (whole, gap) (take-append-drop (r.start - p) (drop p f))

-- ---- the ranges of a file

entries-ascend : (es : List Extension) (p q e : ℕ) (d : Range) → p + length (block_bytes es) ≤ d.start → range_end d ≤ e → q ≤ p
    → Ascending q (payloads (entries_at p es) ++ (d ∷ [])) e
entries-ascend [] p q e d h k l = (omega arith, k)
entries-ascend (x ∷ es) p q e d h k l =
    let tag = ue7_bytes x.tag in
    let size = ue7_bytes (length x.payload) in
    let n = entry-size x es in
    (omega arith, entries-ascend es (p + length tag + length size + length x.payload) _ e d (omega arith) k (omega arith))

pub start-after : (c : Content) → block_start c + length (block_bytes c.extensions) ≤ data_start c
unfolding data_start
start-after c = omega arith

pub data-end : (c : Content) → Rules c → length (file_of c) ≡ data_start c + length c.hevc_data
data-end c r =
    ap length (data-file c r.absent-block) ∙ length-append (before_data c) c.hevc_data ∙ ap (λ (n : ℕ). n + length c.hevc_data) (data-length c)

ascend : (c : Content) → Rules c → Ascending 0 (ranges_of (record_of c)) (length (file_of c))
unfolding record_of
ascend c r =
    let d = range (data_start c) (length c.hevc_data) in
    let file = data-end c r in
    subst (λ (es : List Entry). Ascending 0 (payloads es ++ (d ∷ [])) (length (file_of c))) (sym (used-entries (block_start c) c.extensions))
    (entries-ascend c.extensions (block_start c) 0 (length (file_of c)) d (start-after c) (omega arith) (omega arith))

pub ranges-in-order : (c : Content) → Rules c → InOrder (ranges_of (record_of c)) (length (file_of c))
ranges-in-order c r = in_order 0 _ _ (ascend c r)

pub data-last : (c : Content) → Rules c → range_end (record_of c).«data» ≡ length (file_of c)
unfolding record_of
data-last c r = sym (data-end c r)

pub ranges-whole : (c : Content) → Rules c → joined 0 (ranges_of (record_of c)) (file_of c) ≡ file_of c
ranges-whole c r = join 0 (ranges_of (record_of c)) (length (file_of c)) (file_of c) (ascend c r)

-- part k is the payload of entry k, and the part after the last payload is the data
pub payload-part : (es : List Entry) (d : Range) (k : ℕ) → k < length es → (get_or es k zero_entry).payload ≡ get_or (payloads es ++ (d ∷ [])) k (range 0 0)
payload-part [] d k h = absurd (omega arith)
payload-part (e ∷ es) d zero h = refl
payload-part (e ∷ es) d (suc k) h = payload-part es d k (omega arith)

pub last-part : (es : List Entry) (d : Range) → d ≡ get_or (payloads es ++ (d ∷ [])) (length es) (range 0 0)
last-part [] d = refl
last-part (e ∷ es) d = last-part es d

pub parts-length : (es : List Entry) (d : Range) → length (payloads es ++ (d ∷ [])) ≡ length es + 1
parts-length es d = simp (length-append, length-map)

pub part_length : (f : List ℕ) (r : Range) → range_end r ≤ length f → length (bytes_in f r) ≡ r.length
part_length f r h = simp (length-take, length-drop) (omega arith)

pub used-count : (c : Content) → length (used_entries (record_of c)) ≡ (record_of c).entry_count
unfolding record_of
used-count c = ap length (used-entries (block_start c) c.extensions) ∙ entries-length (block_start c) c.extensions

-- an offset that lies in two of them lies in one and the same
pub one-range : (rs : List Range) (size offset i j : ℕ) → InOrder rs size → i < length rs → j < length rs
    → Inside offset (get_or rs i (range 0 0)) → Inside offset (get_or rs j (range 0 0)) → i ≡ j
one-range rs size offset i j o hi hj a b =
    either_way i j (λ h. either_way j i (λ k. omega arith) (λ k. absurd (omega (arith, o.apart i j k hj, a.before-end, b.after-start))))
    (λ h. absurd (omega (arith, o.apart j i h hi, b.before-end, a.after-start)))
