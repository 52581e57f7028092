-- How long a run is.
use mathlib.Core.Path.{◌≡◌, refl, sym, ◌∙◌}
use mathlib.Core.List.{List, [], ◌∷◌, ◌++◌}
use Prim.Native.Nat.{ℕ, zero, suc, ◌+◌, ◌≤◌, ◌<◌}
use native.Mathlib.Omega.{arith}
use lib.Dec.{leb}
use lib.ListN.{length, length-append}
use borrow.Author.Tests.{le-leb, lt-leb, leb-true, leb-false}
use Rattle.bpg_segment_rules.specs.Segments.{part}
use Rattle.bpg_segment_rules.specs.Runs.{Payloads, exif_prefix, xmp_prefix, chunk_count, icc_run, export_run, within_limits}
use Rattle.bpg_segment_rules.proofs.TestLaws.{by_cases}
use Rattle.bpg_segment_rules.proofs.SegmentLaws.{length-segment, part_none, part-some}
use Rattle.bpg_segment_rules.proofs.ChunkLaws.{count-is, length-icc}
use Rattle.bpg_segment_writer.specs.Sizes.{is_within, part_size, run_size}

pub size-some : (p n : ℕ) → (n ≡ 0 → ⊥) → part_size p n ≡ 4 + p + n
size-some p zero h = absurd (h refl)
size-some p (suc n) h = refl

length_part : (m : ℕ) (prefix p : List ℕ) → length (part m prefix p) ≡ part_size (length prefix) (length p)
length_part m prefix [] = rw part_none refl
length_part m prefix (x ∷ p) = rw (part-some m prefix (x ∷ p) (omega arith), length-segment m (prefix ++ (x ∷ p)) [], length-append) (omega arith)

-- 255 chunks hold 16,707,345 bytes
most-chunks : (i : List ℕ) → leb (chunk_count i) 255 ≡ leb (length i) 16707345
most-chunks i =
    by_cases (leb (length i) 16707345)
    (λ t. let n : length i ≤ 16707345 = leb-true _ _ t in le-leb (chunk_count i) 255 (omega (arith, n, count-is i)) ∙ sym t)
    (λ t. let n : 16707345 < length i = leb-false _ _ t in lt-leb (chunk_count i) 255 (omega (arith, n, count-is i)) ∙ sym t)

module _ (p : Payloads) where
  abbrev pub size_of : ℕ
  size_of = run_size (length p.exif) (length p.xmp) (length p.icc)

  pub length_run : length (export_run p) ≡ size_of
  unfolding export_run
  length_run =
      let a = length-append (part 225 exif_prefix p.exif) (part 225 xmp_prefix p.xmp ++ icc_run p.icc) in
      let b = length-append (part 225 xmp_prefix p.xmp) (icc_run p.icc) in
      let e : length (part 225 exif_prefix p.exif) ≡ part_size 6 (length p.exif) = length_part 225 exif_prefix p.exif in
      let x : length (part 225 xmp_prefix p.xmp) ≡ part_size 29 (length p.xmp) = length_part 225 xmp_prefix p.xmp in
      omega (arith, a, b, e, x, length-icc p.icc, count-is p.icc)

  pub within-is : within_limits p ≡ is_within (length p.exif) (length p.xmp) (length p.icc)
  unfolding within_limits
  within-is = rw (most-chunks p.icc)
