-- The laws of a profile in chunks: what was exported is read back, what is accepted was exported.
use mathlib.Core.Path.{◌≡◌, refl, sym, ap, ap₂, ◌∙◌, subst}
use mathlib.Core.Bool.{true, ◌&&◌}
use mathlib.Core.List.{List, [], ◌∷◌, ◌++◌, append-nil}
use Prim.Native.Nat.{ℕ, zero, suc, ◌+◌, ◌*◌, ◌/◌, ◌≤◌, ◌<◌}
use native.Mathlib.Omega.{arith}
use lib.ListN.{length, take, drop, get_or, length-append, length-take, length-drop, take-append-drop, drop_of_length-le}
use lib.Seq.{take_at, drop_at, length-take-le, take_all}
use borrow.Author.Tests.{eqb-true, eq-eqb}
use Rattle.bpg_codec.specs.Lawful.{All, Byte}
use Rattle.bpg_codec.specs.Outcome.{ok, ◌>>=◌, guard}
use Rattle.bpg_codec.proofs.Select.{is_true}
use Rattle.bpg_codec.proofs.Tokens.{all_rest, byte_at}
use Rattle.bpg_codec.proofs.Outcome.{ok-injective, error-not-ok, unbind, unguard}
use Rattle.bpg_segment_rules.specs.Segments.{segment, after, holds, payload}
use Rattle.bpg_segment_rules.specs.Runs.{icc_prefix, chunk_count, chunks, icc_run, full, is_empty, chunks_in, icc_in}
use Rattle.bpg_segment_rules.proofs.TestLaws.{and_split}
use Rattle.bpg_segment_rules.proofs.SegmentLaws.{length-segment, holds-segment, payload-segment, after-segment, held}

-- a profile that takes this many chunks
abbrev pub Takes : ℕ → List ℕ → Type 0
Takes m i = (length i ≤ m * 65519) × (m * 65519 < length i + 65519)

pub count-is : (i : List ℕ) → chunk_count i ≡ (length i + 65518) / 65519
unfolding chunk_count
count-is i = refl

pub takes_count : (i : List ℕ) → Takes (chunk_count i) i
unfolding chunk_count
takes_count i = (omega arith, omega arith)

pub count-takes : (m : ℕ) (i : List ℕ) → Takes m i → m ≡ chunk_count i
unfolding chunk_count
count-takes m i h = omega arith

pub chunks-none : (k n : ℕ) (i : List ℕ) → chunks 0 k n i ≡ []
unfolding chunks
chunks-none k n i = refl

pub chunks-more : (m k n : ℕ) (i : List ℕ) → chunks (suc m) k n i ≡ segment 226 (icc_prefix k n ++ take 65519 i) ++ chunks m (suc k) n (drop 65519 i)
unfolding chunks
chunks-more m k n i = refl

pub in-none : (k n : ℕ) (l : List ℕ) → chunks_in 0 k n l ≡ (guard (is_empty l) 36 0 >>= λ _. ok [])
unfolding chunks_in
in-none k n l = refl

pub in-more : (m k n : ℕ) (l : List ℕ) → chunks_in (suc m) k n l
    ≡ (guard (holds 226 (icc_prefix k n) l && full m (payload (icc_prefix k n) l)) 36 0 >>= λ _. chunks_in m (suc k) n (after l) >>= λ q. ok (payload (icc_prefix k n) l ++ q))
unfolding chunks_in
in-more m k n l = refl

full-take : (m : ℕ) (i : List ℕ) → Takes (suc m) i → full m (take 65519 i) ≡ true
full-take zero i h = refl
full-take (suc m) i h = eq-eqb _ _ (length-take-le 65519 i (omega arith))

chunks-decode : (m k n : ℕ) (i : List ℕ) → Takes m i → chunks_in m k n (chunks m k n i) ≡ ok i
chunks-decode zero k n [] h = rw (chunks-none, in-none)
chunks-decode zero k n (x ∷ i) h = absurd (omega arith)
chunks-decode (suc m) k n i h =
    let t = length-take 65519 i in
    let d = length-drop 65519 i in
    let p = icc_prefix k n in
    let r = chunks m (suc k) n (drop 65519 i) in
    rw (chunks-more, in-more, holds-segment 226 p (take 65519 i) r (omega arith), payload-segment 226 p (take 65519 i) r, full-take m i h, after-segment 226 (p ++ take 65519 i) r)
    (rw (chunks-decode m (suc k) n (drop 65519 i) (omega arith, omega arith), take-append-drop))

-- a chunk and what follows it, put together and cut again
cut : (m : ℕ) (p q : List ℕ) → full m p ≡ true → length p ≤ 65519 → Takes m q → (take 65519 (p ++ q) ≡ p) × (drop 65519 (p ++ q) ≡ q)
cut zero p [] f h t = rw append-nil (take_all 65519 p h, drop_of_length-le p h)
cut zero p (x ∷ q) f h t = absurd (omega arith)
cut (suc m) p q f h t = let e = eqb-true (length p) 65519 f in (take_at p q 65519 e, drop_at p q 65519 e)

more-takes : (m : ℕ) (p q : List ℕ) → full m p ≡ true → 0 < length p → length p ≤ 65519 → Takes m q → Takes (suc m) (p ++ q)
more-takes zero p q f g h t = let n = length-append p q in (omega arith, omega arith)
more-takes (suc m) p q f g h t = let n = length-append p q in let e = eqb-true (length p) 65519 f in (omega arith, omega arith)

abbrev FoundChunks : (m k n : ℕ) (l i : List ℕ) → Type 0
FoundChunks m k n l i = (l ≡ chunks m k n i) × Takes m i

joined : (m k n : ℕ) (l q : List ℕ) → All Byte l → holds 226 (icc_prefix k n) l ≡ true → full m (payload (icc_prefix k n) l) ≡ true
    → FoundChunks m (suc k) n (after l) q → FoundChunks (suc m) k n l (payload (icc_prefix k n) l ++ q)
joined m k n l q h t f r =
    let p = payload (icc_prefix k n) l in
    let y = held 226 (icc_prefix k n) l h t in
    let small : length p ≤ 65519 = omega (arith, y.2) in
    let c = cut m p q f small r.1 in (
      y.0
          ∙ ap (λ (t : List ℕ). segment 226 (icc_prefix k n ++ p) ++ t) r.0
          ∙ ap₂ (λ (a b : List ℕ). segment 226 (icc_prefix k n ++ a) ++ chunks m (suc k) n b) (sym c.0) (sym c.1)
          ∙ sym (chunks-more m k n (p ++ q)),
      more-takes m p q f y.1 small r.1,
    )

chunks-encode : (m k n : ℕ) (l : List ℕ) → All Byte l → (i : List ℕ) → chunks_in m k n l ≡ ok i → FoundChunks m k n l i
chunks-encode zero k n [] h i e = subst (FoundChunks 0 k n []) (ok-injective (sym (in-none k n []) ∙ e)) (sym (chunks-none k n []), (omega arith, omega arith))
chunks-encode zero k n (x ∷ l) h i e = absurd (error-not-ok (sym (in-none k n (x ∷ l)) ∙ e))
chunks-encode (suc m) k n l h i e =
    unguard (holds 226 (icc_prefix k n) l && full m (payload (icc_prefix k n) l)) 36 0 _ (sym (in-more m k n l) ∙ e) λ t e1.
    unbind (chunks_in m (suc k) n (after l)) _ e1 λ q e2 e3.
    let b = and_split (holds 226 (icc_prefix k n) l) (full m (payload (icc_prefix k n) l)) (is_true _ t) in
    let y = held 226 (icc_prefix k n) l h b.0 in
    subst (FoundChunks (suc m) k n l) (ok-injective e3)
    (joined m k n l q h b.0 b.1 (chunks-encode m (suc k) n (after l) (all_rest Byte l (segment 226 (icc_prefix k n ++ payload (icc_prefix k n) l)) (after l) h y.0) q e2))

-- the two laws of the profile's part
count-there : (m n : ℕ) (i : List ℕ) → m ≡ n → get_or (chunks m 1 n i) 17 0 ≡ n
unfolding chunks segment
count-there zero n i e = e
count-there (suc m) n i e = refl

pub icc-decodes : (i : List ℕ) → icc_in (icc_run i) ≡ ok i
unfolding icc_in
icc-decodes i = rw (count-there (chunk_count i) (chunk_count i) i refl) (chunks-decode (chunk_count i) 1 (chunk_count i) i (takes_count i))

pub icc-encodes : (l : List ℕ) → All Byte l → (i : List ℕ) → icc_in l ≡ ok i → (l ≡ icc_run i) × (chunk_count i ≤ 255)
unfolding icc_in
icc-encodes l h i e =
    let c = chunks-encode (get_or l 17 0) 1 (get_or l 17 0) l h i e in
    let n : get_or l 17 0 ≡ chunk_count i = count-takes (get_or l 17 0) i c.1 in
    (c.0 ∙ ap (λ (k : ℕ). chunks k 1 k i) n, omega (arith, byte_at l 17 h))

length-chunks : (m k n : ℕ) (i : List ℕ) → Takes m i → length (chunks m k n i) ≡ length i + m * 18
length-chunks zero k n i h = rw chunks-none (omega arith)
length-chunks (suc m) k n i h =
    let t = length-take 65519 i in
    let d = length-drop 65519 i in
    let r = length-chunks m (suc k) n (drop 65519 i) (omega arith, omega arith) in
    let s = length-segment 226 (icc_prefix k n ++ take 65519 i) [] in
    let a = length-append (icc_prefix k n) (take 65519 i) in
    rw (chunks-more, length-append) (omega (arith, t, d, r, s, a))

pub length-icc : (i : List ℕ) → length (icc_run i) ≡ length i + chunk_count i * 18
length-icc i = length-chunks (chunk_count i) 1 (chunk_count i) i (takes_count i)
