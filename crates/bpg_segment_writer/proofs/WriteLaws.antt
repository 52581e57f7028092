-- What the writers of segments have written.
use mathlib.Core.Path.{◌≡◌, sym, ap, ap₂, ◌∙◌}
use mathlib.Core.List.{List, [], ◌∷◌, ◌++◌, append_assoc, append-nil}
use Prim.Native.Nat.{ℕ, suc, ◌+◌, ◌-◌, ◌*◌, ◌/◌, ◌≤◌, ◌<◌, min}
use native.Mathlib.Omega.{arith}
use native.Mathlib.Numerals.{add-one}
use lib.ListN.{length, take, drop, length-append, length-drop}
use lib.Seq.{take_all, drop-drop}
use Rattle.bpg_codec.proofs.Lists.{either_way}
use Rattle.bpg_writer.proofs.PutLaws.{Put, put-end, put-none, put_same, put_then}
use Rattle.bpg_segment_rules.specs.Segments.{header, segment, part}
use Rattle.bpg_segment_rules.specs.Runs.{icc_prefix, icc_run, chunks}
use Rattle.bpg_segment_rules.proofs.SegmentLaws.{part_none, part-some}
use Rattle.bpg_segment_rules.proofs.ChunkLaws.{count-is, chunks-none, chunks-more}

segment-is : (marker : ℕ) (a b : List ℕ) → header marker (length a + length b) ++ (a ++ b) ≡ segment marker (a ++ b)
unfolding segment
segment-is marker a b = rw length-append

pub segment-put : (out : List ℕ) (at marker : ℕ) (a b : List ℕ) → at + length (segment marker (a ++ b)) ≤ length out
    → {o1 o2 o3 : List ℕ} {p1 p2 p3 : ℕ} → Put out at (header marker (length a + length b)) o1 p1 → Put o1 p1 a o2 p2 → Put o2 p2 b o3 p3
    → Put out at (segment marker (a ++ b)) o3 p3
segment-put out at marker a b fits {o1} {p1} f g h =
    let e = segment-is marker a b in
    put_same out at e
    (put_then out at (header marker (length a + length b)) (a ++ b) (omega (arith, fits, ap length e)) f λ left. put_then o1 p1 a b left g λ _. h)

module _ (out : List ℕ) (at marker : ℕ) (prefix p : List ℕ) where
  pub part-put-none : length p ≡ 0 → at + length (part marker prefix p) ≤ length out → Put out at (part marker prefix p) out at
  part-put-none = none p
    where
      none : (p : List ℕ) → length p ≡ 0 → at + length (part marker prefix p) ≤ length out → Put out at (part marker prefix p) out at
      none [] e h = rw (part_none marker prefix) (put-none out at (omega (arith, h)))
      none (x ∷ p) e h = absurd (omega arith)

  pub part-fits : (length p ≡ 0 → ⊥) → at + length (part marker prefix p) ≤ length out → at + length (segment marker (prefix ++ p)) ≤ length out
  part-fits e h = rw (← part-some marker prefix p (omega arith)) h

  pub part-put-some : (length p ≡ 0 → ⊥) → {after : List ℕ} {next : ℕ} → Put out at (segment marker (prefix ++ p)) after next
      → Put out at (part marker prefix p) after next
  part-put-some e h = put_same out at (sym (part-some marker prefix p (omega arith))) h

-- a chunk's payload as the code cuts it
pub cut-is : (i : List ℕ) (a : ℕ) → a ≤ length i → take (min (a + 65519) (length i) - a) (drop a i) ≡ take 65519 (drop a i)
cut-is i a h =
    either_way (a + 65519) (length i)
    (λ k. let e : min (a + 65519) (length i) - a ≡ 65519 = omega arith in ap (λ (n : ℕ). take n (drop a i)) e)
    (λ k.
    let d = length-drop a i in
    take_all (min (a + 65519) (length i) - a) (drop a i) (omega arith) ∙ sym (take_all 65519 (drop a i) (omega arith)))

-- the loop over chunks: k of n are written
abbrev pub Chunked : (i : List ℕ) (n : ℕ) (out : List ℕ) (at : ℕ) (after : List ℕ) (next k : ℕ) → Type 0
Chunked i n out at after next k = (done : List ℕ) × (done ++ chunks (n - k) (k + 1) n (drop (k * 65519) i) ≡ chunks n 1 n i) × Put out at done after next

-- the whole run of chunks, by how many the code counts
pub run_is : (i : List ℕ) (n : ℕ) → n ≡ (length i + 65518) / 65519 → chunks n 1 n i ≡ icc_run i
run_is i n e = ap (λ (m : ℕ). chunks m 1 m i) (e ∙ sym (count-is i))

module _ (i : List ℕ) (n : ℕ) (out : List ℕ) (at : ℕ) (fits : at + length (chunks n 1 n i) ≤ length out) where
  pub chunked-none : Chunked i n out at out at 0
  chunked-none = ([], ap (λ (m : ℕ). chunks m 1 n i) (omega arith), put-none out at (omega (arith, fits)))

  module _ (after : List ℕ) (next k : ℕ) (so_far : Chunked i n out at after next k) where
    abbrev seg : List ℕ
    seg = segment 226 (icc_prefix (k + 1) n ++ take 65519 (drop (k * 65519) i))

    next-is : k < n → (so_far.0 ++ seg) ++ chunks (n - (k + 1)) (k + 1 + 1) n (drop ((k + 1) * 65519) i) ≡ chunks n 1 n i
    next-is h =
        let m : n - k ≡ suc (n - (k + 1)) = omega arith in
        let d : k * 65519 + 65519 ≡ (k + 1) * 65519 = omega arith in
        append_assoc so_far.0 seg _
        ∙ ap (λ (t : List ℕ). so_far.0 ++ t)
        (ap₂ (λ (s : ℕ) (t : List ℕ). seg ++ chunks (n - (k + 1)) s n t) (add-one (k + 1)) (ap (λ (s : ℕ). drop s i) (sym d) ∙ sym (drop-drop 65519 (k * 65519) i))
        ∙ sym (chunks-more (n - (k + 1)) (k + 1) n (drop (k * 65519) i))
        ∙ ap (λ (s : ℕ). chunks s (k + 1) n (drop (k * 65519) i)) (sym m))
        ∙ so_far.1

    all-fits : k < n → at + length (so_far.0 ++ seg) ≤ length out
    all-fits h = omega (arith, fits, ap length (next-is h), length-append (so_far.0 ++ seg) (chunks (n - (k + 1)) (k + 1 + 1) n (drop ((k + 1) * 65519) i)))

    pub chunked-fits : k < n → next + length seg ≤ length after
    chunked-fits h =
        let l = length-append so_far.0 seg in
        let e = put-end out at so_far.0 (omega (arith, all-fits h)) so_far.2 in
        omega (arith, all-fits h, e.0, e.1)

    pub chunked-more : k < n → {after2 : List ℕ} {next2 : ℕ} → Put after next seg after2 next2 → Chunked i n out at after2 next2 (k + 1)
    chunked-more h p = (so_far.0 ++ seg, next-is h, put_then out at so_far.0 seg (all-fits h) so_far.2 λ _. p)

    pub chunked-length : length after ≡ length out
    chunked-length =
        let l = length-append so_far.0 (chunks (n - k) (k + 1) n (drop (k * 65519) i)) in
        (put-end out at so_far.0 (omega (arith, fits, ap length so_far.1)) so_far.2).1

    pub chunked-all : k ≡ n → Put out at (chunks n 1 n i) after next
    chunked-all e =
        let z : n - k ≡ 0 = omega arith in
        let d : so_far.0 ≡ chunks n 1 n i
        = sym (append-nil so_far.0)
        ∙ ap (λ (t : List ℕ). so_far.0 ++ t) (sym (chunks-none (k + 1) n (drop (k * 65519) i)) ∙ ap (λ (s : ℕ). chunks s (k + 1) n (drop (k * 65519) i)) (sym z))
        ∙ so_far.1 in
        put_same out at d so_far.2
