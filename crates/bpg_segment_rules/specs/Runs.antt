-- The run of segments that three payloads are exported as, and what a run is imported as (request 10/13).
use Rattle.std.specs.Prelude.{Bool, true, false, ◌&&◌, List, [], ◌∷◌, ◌++◌, ℕ, zero, suc, ◌+◌, ◌/◌, eqb, leb, length, take, drop, get_or}
use Rattle.bpg_codec.specs.Outcome.{Outcome, ok, ◌>>=◌, guard}
use Rattle.bpg_segment_rules.specs.Segments.{app1, app2, segment, after, holds, payload, part, take_part}

-- the payloads of tags 1, 3 and 2; an absent one is empty
pub record Payloads : Type 0 where
  pub exif : List ℕ
  pub xmp : List ℕ
  pub icc : List ℕ

abbrev pub payloads : (exif xmp icc : List ℕ) → Payloads
payloads e x i = record { exif = e; xmp = x; icc = i }

-- ---- the prefixes

-- "EXIF begins "Exif" and two zero bytes"
abbrev pub exif_prefix : List ℕ
exif_prefix = 69 ∷ 120 ∷ 105 ∷ 102 ∷ 0 ∷ 0 ∷ []

-- "XMP begins "http://ns.adobe.com/xap/1.0/" and a zero byte"
abbrev pub xmp_prefix : List ℕ
xmp_prefix =
    104 ∷ 116 ∷ 116 ∷ 112 ∷ 58 ∷ 47 ∷ 47 ∷ 110 ∷ 115 ∷ 46 ∷ 97 ∷ 100 ∷ 111 ∷ 98 ∷ 101 ∷ 46 ∷ 99 ∷ 111 ∷ 109 ∷ 47 ∷ 120 ∷ 97 ∷ 112 ∷ 47 ∷ 49 ∷ 46 ∷ 48 ∷ 47 ∷ 0 ∷ []

-- "ICC begins "ICC_PROFILE" and a zero byte, chunk number, chunk count"
abbrev pub icc_prefix : (number count : ℕ) → List ℕ
icc_prefix number count = 73 ∷ 67 ∷ 67 ∷ 95 ∷ 80 ∷ 82 ∷ 79 ∷ 70 ∷ 73 ∷ 76 ∷ 69 ∷ 0 ∷ number ∷ count ∷ []

-- ---- export

-- "all chunks but the last holding 65,519 payload bytes, the last 1 to 65,519"
abbrev pub chunk_size : ℕ
chunk_size = 65519

-- how many chunks a profile takes
unfoldable pub chunk_count : List ℕ → ℕ
chunk_count i = (length i + 65518) / 65519

-- the last `left` chunks, of which the first has this number: "chunks numbered 1 upward"
unfoldable pub chunks : (left number count : ℕ) → List ℕ → List ℕ
chunks zero number count i = []
chunks (suc m) number count i = segment app2 (icc_prefix number count ++ take chunk_size i) ++ chunks m (suc number) count (drop chunk_size i)

abbrev pub icc_run : List ℕ → List ℕ
icc_run i = chunks (chunk_count i) 1 (chunk_count i) i

-- "tags 1, 3 and 2, in that order, as application segments"
unfoldable pub export_run : Payloads → List ℕ
export_run p = part app1 exif_prefix p.exif ++ (part app1 xmp_prefix p.xmp ++ icc_run p.icc)

-- what can be exported: "34 EXIF above 65,527, XMP above 65,504, ICC above 255 chunks"
unfoldable pub within_limits : Payloads → Bool
within_limits p = leb (length p.exif) 65527 && (leb (length p.xmp) 65504 && leb (chunk_count p.icc) 255)

-- ---- import

-- a chunk before `left` others is full
abbrev pub full : (left : ℕ) → List ℕ → Bool
full zero p = true
full (suc m) p = eqb (length p) chunk_size

abbrev pub is_empty : List ℕ → Bool
is_empty [] = true
is_empty (x ∷ l) = false

-- the payload of `left` chunks, of which the first has this number; nothing may be left after them
unfoldable pub chunks_in : (left number count : ℕ) → List ℕ → Outcome (List ℕ)
chunks_in zero number count l = guard (is_empty l) 36 0 >>= λ _. ok []
chunks_in (suc m) number count l =
    guard (holds app2 (icc_prefix number count) l && full m (payload (icc_prefix number count) l)) 36 0 >>= λ _.
    chunks_in m (suc number) count (after l) >>= λ q.
    ok (payload (icc_prefix number count) l ++ q)

-- the count stands in the first chunk; where there is none, it counts as 0
unfoldable pub icc_in : List ℕ → Outcome (List ℕ)
icc_in l = chunks_in (get_or l 17 0) 1 (get_or l 17 0) l

-- "a run of such segments, in the same order"; what is no part of it is left over, and 36
unfoldable pub import_run : List ℕ → Outcome Payloads
import_run l =
    let e = take_part app1 exif_prefix l in
    let x = take_part app1 xmp_prefix e.1 in
    icc_in x.1 >>= λ i. ok (payloads e.0 x.0 i)
