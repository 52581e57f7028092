-- What was found of the parts, put together.
use mathlib.Core.Path.{◌≡◌, refl, sym, ap, ◌∙◌}
use Rattle.std.specs.Prelude.{Some, None}
use mathlib.Core.List.{List}
use Prim.Native.Nat.{ℕ}
use native.Mathlib.Omega.{arith}
use lib.ListN.{length, drop}
use Rattle.bpg_codec.specs.Outcome.{Outcome, ok, error, ◌>>=◌}
use Rattle.bpg_codec.proofs.Outcome.{ok-injective, error-not-ok}
use Rattle.bpg_segment_rules.specs.Segments.{take_part}
use Rattle.bpg_segment_rules.specs.Runs.{Payloads, payloads, exif_prefix, xmp_prefix, icc_in, import_run}
use Rattle.bpg_segment_reader.specs.declared.segment.Part.{Part}
use Rattle.bpg_segment_reader.specs.Places.{bytes_of, PartAt, judged_length}
use Rattle.bpg_segment_reader.specs.Runs.{value_of, profile_in, FoundIn}

-- what a judgement says of the profile
judged-refused : (o : Outcome (List ℕ)) → judged_length 0 o ≡ error 36 0 → o ≡ error 36 0
unfolding judged_length
judged-refused (ok q) h = absurd (error-not-ok (sym h))
judged-refused (error s o) h = cc

judged-accepted : (n : ℕ) (o : Outcome (List ℕ)) → judged_length 0 o ≡ ok n → (o ≡ ok (value_of o)) × (length (value_of o) ≡ n)
unfolding judged_length
judged-accepted n (ok q) h = (refl, omega (arith, ok-injective h))
judged-accepted n (error s o) h = absurd (error-not-ok h)

module _ (run : List ℕ) (e x : Part) (exif : PartAt run 0 225 exif_prefix e) (xmp : PartAt run e.end 225 xmp_prefix x) where
  abbrev given : List ℕ → Payloads
  given = payloads (bytes_of run e) (bytes_of run x)

  import-is : import_run run ≡ (icc_in (drop x.end run) >>= λ i. ok (given i))
  unfolding import_run
  import-is =
      ap (λ (y : List ℕ × List ℕ). icc_in (take_part 225 xmp_prefix y.1).1 >>= λ i. ok (payloads y.0 (take_part 225 xmp_prefix y.1).0 i)) exif.is
      ∙ ap (λ (y : List ℕ × List ℕ). icc_in y.1 >>= λ i. ok (payloads (bytes_of run e) y.0 i)) xmp.is

  pub found-none : judged_length 0 (icc_in (drop x.end run)) ≡ error 36 0 → FoundIn run None
  found-none icc = import-is ∙ ap (λ (o : Outcome (List ℕ)). o >>= λ i. ok (given i)) (judged-refused _ icc)

  pub found-some : (n : ℕ) → judged_length 0 (icc_in (drop x.end run)) ≡ ok n → FoundIn run (Some (record { exif = e; xmp = x; icc_length = n }))
  unfolding profile_in
  found-some n icc =
      let there = judged-accepted n (icc_in (drop x.end run)) icc in
      record {
        exif-ordered = exif.ordered;
        exif-inside = exif.inside;
        apart = xmp.from;
        xmp-ordered = xmp.ordered;
        xmp-inside = xmp.inside;
        accepted = import-is ∙ ap (λ (o : Outcome (List ℕ)). o >>= λ i. ok (given i)) there.0;
        icc = there.0;
        icc-length = there.1;
      }
