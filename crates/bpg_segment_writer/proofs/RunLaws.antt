-- What writing a run answers.
use mathlib.Core.Path.{◌≡◌, refl, sym, ap, ◌∙◌}
use mathlib.Core.Bool.{Bool, true, false}
use mathlib.Core.List.{List, ◌++◌}
use Prim.Native.Nat.{ℕ, ◌+◌, ◌≤◌, ◌<◌}
use native.Mathlib.Omega.{arith}
use lib.ListN.{length, drop, length-append}
use Rattle.bpg_codec.proofs.Buffer.{stored}
use Rattle.bpg_writer.proofs.PutLaws.{Put, put-end, put_then}
use Rattle.bpg_format.specs.declared.answer.Written.{Written}
use Rattle.bpg_format.specs.Zero.{refused_written}
use Rattle.bpg_segment_rules.specs.Segments.{part}
use Rattle.bpg_segment_rules.specs.Runs.{Payloads, exif_prefix, xmp_prefix, icc_run, export_run}
use Rattle.bpg_segment_rules.specs.Calls.{export_outcome, export_payloads, export_buffer}
use Rattle.bpg_segment_rules.specs.Requirements.{Limits, written}
use Rattle.bpg_segment_rules.proofs.Requirements.{within-limits, refusals}
use Rattle.bpg_segment_writer.specs.Sizes.{is_within}
use Rattle.bpg_segment_writer.proofs.SizeLaws.{size_of, length_run, within-is}

module _ (p : Payloads) (out : List ℕ) (b : Bool) (judged : b ≡ is_within (length p.exif) (length p.xmp) (length p.icc)) where
  abbrev pub Answers : Written → List ℕ → Type 0
  Answers w after = (w ≡ export_payloads p out) × (after ≡ export_buffer p out)

  pub run-34 : b ≡ false → Answers (refused_written 34 0) out
  unfolding export_payloads export_buffer export_outcome
  run-34 f = rw (within-is p, ← judged, f) (refl, refl)

  module _ (t : b ≡ true) where
    pub limits : Limits p
    limits = within-limits p (within-is p ∙ sym judged ∙ t)

    pub run-20 : length out < size_of p → Answers (refused_written 20 0) out
    run-20 h = let e = refusals.small-export p out limits (omega (arith, h, length_run p)) in (sym e.0, sym e.1)

    module _ (room : size_of p ≤ length out) where
      abbrev exif_part : List ℕ
      exif_part = part 225 exif_prefix p.exif

      abbrev xmp_part : List ℕ
      xmp_part = part 225 xmp_prefix p.xmp

      fits : length (exif_part ++ (xmp_part ++ icc_run p.icc)) ≤ length out
      unfolding export_run
      fits = omega (arith, room, length_run p)

      pub room-exif : 0 + length exif_part ≤ length out
      room-exif = omega (arith, fits, length-append exif_part (xmp_part ++ icc_run p.icc))

      module _ {o1 : List ℕ} {p1 : ℕ} (first : Put out 0 exif_part o1 p1) where
        pub room-xmp : p1 + length xmp_part ≤ length o1
        room-xmp =
            let e = put-end out 0 exif_part room-exif first in
            omega (arith, fits, length-append exif_part (xmp_part ++ icc_run p.icc), length-append xmp_part (icc_run p.icc), e.0, e.1)

        module _ {o2 : List ℕ} {p2 : ℕ} (second : Put o1 p1 xmp_part o2 p2) where
          pub room-icc : p2 + length (icc_run p.icc) ≤ length o2
          room-icc =
              let e = put-end out 0 exif_part room-exif first in
              let f = put-end o1 p1 xmp_part room-xmp second in
              omega (arith, fits, length-append exif_part (xmp_part ++ icc_run p.icc), length-append xmp_part (icc_run p.icc), e.0, e.1, f.0, f.1)

          pub run-0 : (n : ℕ) → n ≡ size_of p → {o3 : List ℕ} {p3 : ℕ} → Put o2 p2 (icc_run p.icc) o3 p3 → Answers (written n) o3
          unfolding export_run
          run-0 n d {o3} third =
              let run = export_run p in
              let w = put_then out 0 exif_part (xmp_part ++ icc_run p.icc) (omega (arith, fits)) first λ left. put_then o1 p1 xmp_part (icc_run p.icc) left second λ _. third in
              let z : 0 + length run ≡ length run = omega arith in
              let o : o3 ≡ run ++ drop (length run) out = w.0 ∙ sym (stored out 0 run (omega (arith, fits))).0 ∙ ap (λ (c : ℕ). run ++ drop c out) z in
              let e = refusals.exported p out limits fits in
              (ap written (d ∙ sym (length_run p)) ∙ sym e.0, o ∙ sym e.1)
