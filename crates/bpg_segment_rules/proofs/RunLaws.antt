-- The laws of the run: what was exported is imported, and what is imported was exported.
use mathlib.Core.Path.{◌≡◌, refl, sym, ap, ◌∙◌, subst}
use mathlib.Core.Bool.{false}
use mathlib.Core.List.{List, [], ◌∷◌, ◌++◌}
use Prim.Native.Nat.{ℕ, zero, suc}
use native.Mathlib.Omega.{arith}
use lib.ListN.{length, take}
use Rattle.bpg_codec.specs.Lists.{same}
use Rattle.bpg_codec.specs.Lawful.{All, Byte}
use Rattle.bpg_codec.specs.Outcome.{ok}
use Rattle.bpg_codec.proofs.Tokens.{all_rest}
use Rattle.bpg_codec.proofs.Outcome.{ok-injective, unbind}
use Rattle.bpg_segment_rules.specs.Segments.{holds, part, take_part}
use Rattle.bpg_segment_rules.specs.Runs.{Payloads, exif_prefix, xmp_prefix, icc_prefix, chunk_count, chunks, icc_run, export_run, icc_in, import_run}
use Rattle.bpg_segment_rules.specs.Requirements.{Limits}
use Rattle.bpg_segment_rules.proofs.SegmentLaws.{holds-none, holds-other, part_none, part-some, part-decodes, part-encodes}
use Rattle.bpg_segment_rules.proofs.ChunkLaws.{chunks-none, chunks-more, icc-decodes, icc-encodes}

-- none is taken for another
chunks_apart : (prefix : List ℕ) → ((n : ℕ) (p : List ℕ) → same (take (length prefix) (icc_prefix 1 n ++ p)) prefix ≡ false) → (m n : ℕ) (i : List ℕ)
    → holds 225 prefix (chunks m 1 n i) ≡ false
chunks_apart prefix d zero n i = rw chunks-none (holds-none 225 prefix)
chunks_apart prefix d (suc m) n i = rw chunks-more (holds-other 225 prefix 226 (icc_prefix 1 n ++ take 65519 i) _ (d n (take 65519 i)))

exif-apart : (x i : List ℕ) → holds 225 exif_prefix (part 225 xmp_prefix x ++ icc_run i) ≡ false
exif-apart [] i = rw part_none (chunks_apart exif_prefix (λ n p. refl) (chunk_count i) (chunk_count i) i)
exif-apart (a ∷ x) i = rw (part-some 225 xmp_prefix (a ∷ x) (omega arith)) (holds-other 225 exif_prefix 225 (xmp_prefix ++ (a ∷ x)) (icc_run i) refl)

xmp-apart : (i : List ℕ) → holds 225 xmp_prefix (icc_run i) ≡ false
xmp-apart i = chunks_apart xmp_prefix (λ n p. refl) (chunk_count i) (chunk_count i) i

-- what was exported is imported, whatever the payloads
pub import-export : (p : Payloads) → import_run (export_run p) ≡ ok p
unfolding import_run export_run
import-export p =
    let e = p.exif in
    let x = p.xmp in
    let i = p.icc in
    rw (part-decodes 225 exif_prefix e (part 225 xmp_prefix x ++ icc_run i) (exif-apart x i), part-decodes 225 xmp_prefix x (icc_run i) (xmp-apart i), icc-decodes i)

-- no two sets of payloads share an export
pub export-injective : (p q : Payloads) → export_run p ≡ export_run q → p ≡ q
export-injective p q h = ok-injective (sym (import-export p) ∙ ap import_run h ∙ import-export q)

abbrev Accepted : List ℕ → Payloads → Type 0
Accepted l p = (l ≡ export_run p) × Limits p

-- what is imported is the export of what is answered
pub export-import : (l : List ℕ) → All Byte l → (p : Payloads) → import_run l ≡ ok p → Accepted l p
unfolding import_run export_run
export-import l h p r =
    let e = take_part 225 exif_prefix l in
    let x = take_part 225 xmp_prefix e.1 in
    let a = part-encodes 225 exif_prefix l h (omega arith) in
    let h1 = all_rest Byte l (part 225 exif_prefix e.0) e.1 h a.0 in
    let b = part-encodes 225 xmp_prefix e.1 h1 (omega arith) in
    let h2 = all_rest Byte e.1 (part 225 xmp_prefix x.0) x.1 h1 b.0 in
    unbind (icc_in x.1) _ r λ i e1 e2.
    let c = icc-encodes x.1 h2 i e1 in
    subst (Accepted l) (ok-injective e2) (
      a.0 ∙ ap (λ (t : List ℕ). part 225 exif_prefix e.0 ++ t) (b.0 ∙ ap (λ (t : List ℕ). part 225 xmp_prefix x.0 ++ t) c.0),
      record { exif = omega (arith, a.1); xmp = omega (arith, b.1); icc = c.1 },
    )
