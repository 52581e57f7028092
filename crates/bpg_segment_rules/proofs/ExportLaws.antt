-- An export is bytes where its payloads are, and only there; a JPEG reader can skip its segments.
use mathlib.Core.Path.{◌≡◌, sym, subst}
use mathlib.Core.Bool.{Bool, true, ◌&&◌}
use mathlib.Core.List.{List, [], ◌∷◌, ◌++◌}
use Prim.Native.Nat.{ℕ, zero, suc, ◌+◌, ◌-◌, ◌*◌, ◌/◌, ◌%◌, ◌≤◌, ◌<◌}
use native.Mathlib.Omega.{arith}
use lib.Dec.{T, ltb}
use lib.ListN.{length, take, drop, length-append, length-take, length-drop, take-append-drop}
use lib.Seq.{drop_at}
use borrow.Author.Tests.{ltb-true}
use Rattle.bpg_codec.specs.Lawful.{All, Byte}
use Rattle.bpg_codec.proofs.Select.{is_true, and_left, and_right}
use Rattle.bpg_codec.proofs.Tokens.{all_append, all_left, all_right, all_take, all_drop}
use Rattle.bpg_segment_rules.specs.Segments.{segment, part}
use Rattle.bpg_segment_rules.specs.Runs.{Payloads, exif_prefix, xmp_prefix, icc_prefix, chunk_count, chunks, icc_run, export_run}
use Rattle.bpg_segment_rules.specs.Skipping.{Skippable, at-end, skip}
use Rattle.bpg_segment_rules.specs.Requirements.{Limits, Bytes}
use Rattle.bpg_segment_rules.proofs.SegmentLaws.{part_none, part-some}
use Rattle.bpg_segment_rules.proofs.ChunkLaws.{Takes, takes_count, chunks-none, chunks-more}

-- ---- bytes

-- a list of numbers that a test finds to be bytes
abbrev are_bytes : List ℕ → Bool
are_bytes [] = true
are_bytes (x ∷ l) = ltb x 256 && are_bytes l

all-below : (l : List ℕ) → T (are_bytes l) → All Byte l
all-below [] t = tt
all-below (x ∷ l) t = (ltb-true _ _ (is_true _ (and_left (ltb x 256) (are_bytes l) t)), all-below l (and_right (ltb x 256) (are_bytes l) t))

segment-bytes : (marker : ℕ) (body : List ℕ) → marker < 256 → length body ≤ 65533 → All Byte body → All Byte (segment marker body)
unfolding segment
segment-bytes marker body m h b = (omega arith, (m, (omega arith, (omega arith, b))))

body_bytes : (marker : ℕ) (body : List ℕ) → All Byte (segment marker body) → All Byte body
unfolding segment
body_bytes marker body h = h.1.1.1.1

part_bytes : (prefix p : List ℕ) → All Byte prefix → All Byte p → length prefix + length p ≤ 65533 → All Byte (part 225 prefix p)
part_bytes prefix [] a b h = rw part_none tt
part_bytes prefix (x ∷ p) a b h =
    rw (part-some 225 prefix (x ∷ p) (omega arith))
    (segment-bytes 225 (prefix ++ (x ∷ p)) (omega arith) (rw length-append h) (all_append Byte prefix (x ∷ p) a b))

payload-bytes : (prefix p : List ℕ) → All Byte (part 225 prefix p) → All Byte p
payload-bytes prefix [] h = tt
payload-bytes prefix (x ∷ p) h =
    all_right Byte prefix (x ∷ p) (body_bytes 225 (prefix ++ (x ∷ p)) (subst (All Byte) (part-some 225 prefix (x ∷ p) (omega arith)) h))

chunks-bytes : (m k n : ℕ) (i : List ℕ) → k + m ≤ 256 → n < 256 → All Byte i → All Byte (chunks m k n i)
chunks-bytes zero k n i h j b = rw chunks-none tt
chunks-bytes (suc m) k n i h j b =
    rw chunks-more
    (all_append Byte (segment 226 (icc_prefix k n ++ take 65519 i)) (chunks m (suc k) n (drop 65519 i))
    (segment-bytes 226 (icc_prefix k n ++ take 65519 i) (omega arith) (rw length-append (omega (arith, length-take 65519 i)))
    (all_append Byte (icc_prefix k n) (take 65519 i) (prefix-bytes k n (omega arith) j) (all_take Byte 65519 i b)))
    (chunks-bytes m (suc k) n (drop 65519 i) (omega arith) j (all_drop Byte 65519 i b)))
  where
    prefix-bytes : (k n : ℕ) → k < 256 → n < 256 → All Byte (icc_prefix k n)
    prefix-bytes k n a b =
        all_append Byte (73 ∷ 67 ∷ 67 ∷ 95 ∷ 80 ∷ 82 ∷ 79 ∷ 70 ∷ 73 ∷ 76 ∷ 69 ∷ 0 ∷ []) (k ∷ n ∷ [])
        (all-below (73 ∷ 67 ∷ 67 ∷ 95 ∷ 80 ∷ 82 ∷ 79 ∷ 70 ∷ 73 ∷ 76 ∷ 69 ∷ 0 ∷ []) tt) (a, (b, tt))

profile-bytes : (m k n : ℕ) (i : List ℕ) → Takes m i → All Byte (chunks m k n i) → All Byte i
profile-bytes zero k n [] t h = tt
profile-bytes zero k n (x ∷ i) t h = absurd (omega arith)
profile-bytes (suc m) k n i t h =
    let d = length-drop 65519 i in
    let s = segment 226 (icc_prefix k n ++ take 65519 i) in
    let r = chunks m (suc k) n (drop 65519 i) in
    let g : All Byte (s ++ r) = subst (All Byte) (chunks-more m k n i) h in
    let first = all_right Byte (icc_prefix k n) (take 65519 i) (body_bytes 226 (icc_prefix k n ++ take 65519 i) (all_left Byte s r g)) in
    let rest = profile-bytes m (suc k) n (drop 65519 i) (omega arith, omega arith) (all_right Byte s r g) in
    subst (All Byte) (take-append-drop 65519 i) (all_append Byte (take 65519 i) (drop 65519 i) first rest)

module _ (p : Payloads) where
  abbrev exif_part : List ℕ
  exif_part = part 225 exif_prefix p.exif

  abbrev xmp_part : List ℕ
  xmp_part = part 225 xmp_prefix p.xmp

  pub export-bytes : Limits p → Bytes p → All Byte (export_run p)
  unfolding export_run
  export-bytes h b =
      all_append Byte exif_part (xmp_part ++ icc_run p.icc) (part_bytes exif_prefix p.exif (all-below exif_prefix tt) b.0 (omega (arith, h.exif)))
      (all_append Byte xmp_part (icc_run p.icc) (part_bytes xmp_prefix p.xmp (all-below xmp_prefix tt) b.1 (omega (arith, h.xmp)))
      (chunks-bytes (chunk_count p.icc) 1 (chunk_count p.icc) p.icc (omega (arith, h.icc)) (omega (arith, h.icc)) b.2))

  pub payloads-bytes : All Byte (export_run p) → Bytes p
  unfolding export_run
  payloads-bytes h =
      let rest = all_right Byte exif_part (xmp_part ++ icc_run p.icc) h in (
        payload-bytes exif_prefix p.exif (all_left Byte exif_part (xmp_part ++ icc_run p.icc) h),
        payload-bytes xmp_prefix p.xmp (all_left Byte xmp_part (icc_run p.icc) rest),
        profile-bytes (chunk_count p.icc) 1 (chunk_count p.icc) p.icc (takes_count p.icc) (all_right Byte xmp_part (icc_run p.icc) rest),
      )

-- ---- skipping

skip-segment : (marker : ℕ) (body rest : List ℕ) → 224 ≤ marker → marker ≤ 239 → length body ≤ 65533 → Skippable rest → Skippable (segment marker body ++ rest)
unfolding segment
skip-segment marker body rest a b h s =
    let high = (length body + 2) / 256 in
    let low = (length body + 2) % 256 in
    let n : length body ≡ high * 256 + low - 2 = omega arith in
    skip marker high low (body ++ rest) a b (omega arith) (omega arith) (omega arith) (omega (arith, n, length-append body rest))
    (subst Skippable (sym (drop_at body rest (high * 256 + low - 2) n)) s)

chunks-skip : (m k n : ℕ) (i : List ℕ) → Skippable (chunks m k n i)
chunks-skip zero k n i = rw chunks-none at-end
chunks-skip (suc m) k n i =
    rw chunks-more
    (skip-segment 226 (icc_prefix k n ++ take 65519 i) _ (omega arith) (omega arith) (rw length-append (omega (arith, length-take 65519 i)))
    (chunks-skip m (suc k) n (drop 65519 i)))

part-skip : (prefix p rest : List ℕ) → length prefix + length p ≤ 65533 → Skippable rest → Skippable (part 225 prefix p ++ rest)
part-skip prefix [] rest h s = rw part_none s
part-skip prefix (x ∷ p) rest h s =
    rw (part-some 225 prefix (x ∷ p) (omega arith)) (skip-segment 225 (prefix ++ (x ∷ p)) rest (omega arith) (omega arith) (rw length-append h) s)

pub export-skips : (p : Payloads) → Limits p → Skippable (export_run p)
unfolding export_run
export-skips p h =
    part-skip exif_prefix p.exif _ (omega (arith, h.exif))
    (part-skip xmp_prefix p.xmp _ (omega (arith, h.xmp)) (chunks-skip (chunk_count p.icc) 1 (chunk_count p.icc) p.icc))
