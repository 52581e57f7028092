-- What import answers, by what was found in the run.
use mathlib.Core.Path.{◌≡◌, refl, sym, ap, ap₂, ◌∙◌}
use Rattle.std.specs.Prelude.{Some, None}
use mathlib.Core.List.{List, ◌++◌}
use Prim.Native.Nat.{ℕ, ◌+◌, ◌-◌, ◌≤◌, ◌<◌}
use native.Mathlib.Omega.{arith}
use lib.ListN.{length, drop, length-append, length-drop}
use lib.Seq.{length-take-le}
use borrow.Author.Tests.{le-leb, lt-leb}
use Rattle.bpg_codec.specs.Lawful.{All, Byte}
use Rattle.bpg_codec.proofs.Buffer.{stored}
use Rattle.bpg_codec.proofs.Tokens.{all_drop}
use Rattle.bpg_writer.proofs.PutLaws.{Put, put-end, put_then}
use Rattle.bpg_segment_rules.specs.declared.answer.Imported.{Imported}
use Rattle.bpg_codec.specs.Outcome.{ok}
use Rattle.bpg_segment_rules.specs.Runs.{Payloads, payloads, import_run}
use Rattle.bpg_segment_rules.specs.Calls.{joined, import_outcome, refused_import, imported_payloads, import_segments, import_buffer}
use Rattle.bpg_segment_rules.proofs.ChunkLaws.{icc-encodes, length-icc}
use Rattle.bpg_segment_reader.specs.declared.run.Found.{Found}
use Rattle.bpg_segment_reader.specs.Places.{bytes_of}
use Rattle.bpg_segment_reader.specs.Runs.{profile_in, FoundIn}

module _ (run out : List ℕ) where
  abbrev pub Answers : Imported → List ℕ → Type 0
  Answers x after = (x ≡ import_segments run out) × (after ≡ import_buffer run out)

  pub import-36 : FoundIn run None → Answers (refused_import 36 0) out
  unfolding import_segments import_buffer import_outcome
  import-36 f = rw f (refl, refl)

  -- the payloads of EXIF and XMP as they were found
  module _ (r : Found) (f : FoundIn run (Some r)) (bytes : All Byte run) (e x : List ℕ) (e-is : e ≡ bytes_of run r.exif) (x-is : x ≡ bytes_of run r.xmp) where
    abbrev profile : List ℕ
    profile = profile_in (drop r.xmp.end run)

    abbrev all : Payloads
    all = payloads e x profile

    accepted : import_run run ≡ ok all
    accepted = f.accepted ∙ ap₂ (λ (a b : List ℕ). ok (payloads a b profile)) (sym e-is) (sym x-is)

    exif-length : length e ≡ r.exif.end - r.exif.start
    exif-length = ap length e-is ∙ length-take-le (r.exif.end - r.exif.start) (drop r.exif.start run) (omega (arith, length-drop r.exif.start run, f.exif-inside, f.exif-ordered))

    xmp-length : length x ≡ r.xmp.end - r.xmp.start
    xmp-length = ap length x-is ∙ length-take-le (r.xmp.end - r.xmp.start) (drop r.xmp.start run) (omega (arith, length-drop r.xmp.start run, f.xmp-inside, f.xmp-ordered))

    -- the payloads have no more bytes than the run: the sum of their lengths fits
    pub no_longer : length e + length x + r.icc_length ≤ length run
    no_longer =
        let i = (icc-encodes (drop r.xmp.end run) (all_drop Byte r.xmp.end run bytes) profile f.icc).0 in
        omega (arith, exif-length, xmp-length, f.exif-ordered, f.apart, f.xmp-ordered, f.xmp-inside, f.icc-length, ap length i, length-icc profile, length-drop r.xmp.end run)

    length-all : length (joined all) ≡ length e + length x + r.icc_length
    length-all = omega (arith, f.icc-length, length-append e (x ++ profile), length-append x profile)

    pub import-20 : length out < length e + length x + r.icc_length → Answers (refused_import 20 0) out
    unfolding import_segments import_buffer import_outcome
    import-20 h = rw (accepted, lt-leb (length (joined all)) (length out) (omega (arith, h, length-all))) (refl, refl)

    module _ (room : length e + length x + r.icc_length ≤ length out) where
      fits : length (joined all) ≤ length out
      fits = omega (arith, room, length-all)

      answered : (import_segments run out ≡ imported_payloads all) × (import_buffer run out ≡ joined all ++ drop (length (joined all)) out)
      unfolding import_segments import_buffer import_outcome
      answered = rw (accepted, le-leb (length (joined all)) (length out) fits) (refl, refl)

      abbrev lengths : (icc : ℕ) → Imported
      lengths n = record { status = 0; offset = 0; exif_length = length e; xmp_length = length x; icc_length = n }

      module _ {o1 o2 : List ℕ} {p1 p2 : ℕ} (first : Put out 0 e o1 p1) (second : Put o1 p1 x o2 p2) where
        pub room-icc : p2 + length profile ≤ length o2
        room-icc =
            let a = length-append e (x ++ profile) in
            let b = length-append x profile in
            let g = put-end out 0 e (omega (arith, fits, a)) first in
            let h = put-end o1 p1 x (omega (arith, fits, a, b, g.0, g.1)) second in
            omega (arith, fits, a, b, g.0, g.1, h.0, h.1)

        pub import-0 : {o3 : List ℕ} {p3 : ℕ} → Put o2 p2 profile o3 p3 → Answers (lengths r.icc_length) o3
        import-0 {o3} third =
            let w = put_then out 0 e (x ++ profile) (omega (arith, fits)) first λ left. put_then o1 p1 x profile left second λ _. third in
            let z : 0 + length (joined all) ≡ length (joined all) = omega arith in
            let o : o3 ≡ joined all ++ drop (length (joined all)) out
            = w.0 ∙ sym (stored out 0 (joined all) (omega (arith, fits))).0 ∙ ap (λ (c : ℕ). joined all ++ drop c out) z in
            (ap lengths (sym f.icc-length) ∙ sym answered.0, o ∙ sym answered.1)
