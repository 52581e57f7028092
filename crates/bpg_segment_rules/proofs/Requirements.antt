-- The requirements of request 10/13 over three payloads, proved.
use mathlib.Core.Path.{◌≡◌, refl, sym, ap, ◌∙◌, subst}
use mathlib.Core.Bool.{true, false, ◌&&◌}
use mathlib.Core.List.{List, [], ◌++◌}
use mathlib.Core.Logic.{◌↔◌, ◌⊎◌, inl, inr, ⊎_elim, ◌≢◌}
use Prim.Native.Nat.{ℕ, zero, suc, ◌≤◌, ◌<◌}
use native.Mathlib.Omega.{arith}
use lib.Dec.{leb}
use lib.ListN.{length, take, drop}
use lib.Seq.{take-append_seam}
use borrow.Author.Tests.{le-leb, lt-leb, leb-true, leb-false}
use Rattle.bpg_codec.specs.Lawful.{All, Byte}
use Rattle.bpg_codec.specs.Outcome.{Outcome, ok, error}
use Rattle.bpg_codec.proofs.Refusals.{Refuses, refuses-ok, refuses-bind, refuses-guard}
use Rattle.bpg_format.specs.Zero.{refused_written}
use Rattle.bpg_segment_rules.specs.Segments.{holds, payload, after, part, take_part}
use Rattle.bpg_segment_rules.specs.Runs.{Payloads, payloads, exif_prefix, xmp_prefix, icc_prefix, chunk_count, chunks, export_run, within_limits, full, is_empty, chunks_in, icc_in, import_run}
use Rattle.bpg_segment_rules.specs.Calls.{export_outcome, export_payloads, export_buffer, joined, import_outcome, refused_import, import_segments, import_buffer}
use Rattle.bpg_segment_rules.specs.Requirements.{Limits, IsExport, Answered, RoundTrip, NoneShared, OnlyExports, WellFormed, Refusals, written}
use Rattle.bpg_segment_rules.proofs.TestLaws.{and_split, by_cases, false-not-true}
use Rattle.bpg_segment_rules.proofs.RunLaws.{import-export, export-injective, export-import}
use Rattle.bpg_segment_rules.proofs.ExportLaws.{export-bytes, payloads-bytes, export-skips}

-- ---- the limits as a test

pub within-limits : (p : Payloads) → within_limits p ≡ true → Limits p
unfolding within_limits
within-limits p t =
    let a = and_split (leb (length p.exif) 65527) _ t in
    let b = and_split (leb (length p.xmp) 65504) _ a.1 in
    record { exif = leb-true _ _ a.0; xmp = leb-true _ _ b.0; icc = leb-true _ _ b.1 }

limits-within : (p : Payloads) → Limits p → within_limits p ≡ true
unfolding within_limits
limits-within p h = rw (le-leb _ _ h.exif, le-leb _ _ h.xmp, le-leb _ _ h.icc)

not_within : (p : Payloads) → (Limits p → ⊥) → within_limits p ≡ false
not_within p h = by_cases (within_limits p) (λ t. absurd (h (within-limits p t))) (λ t. t)

-- ---- export

module _ (p : Payloads) (out : List ℕ) where
  too_long : (Limits p → ⊥) → (export_payloads p out ≡ refused_written 34 0) × (export_buffer p out ≡ out)
  unfolding export_payloads export_buffer export_outcome
  too_long h = rw (not_within p h) (refl, refl)

  small-export : Limits p → length out < length (export_run p) → (export_payloads p out ≡ refused_written 20 0) × (export_buffer p out ≡ out)
  unfolding export_payloads export_buffer export_outcome
  small-export h n = rw (limits-within p h, lt-leb (length (export_run p)) (length out) n) (refl, refl)

  exported : Limits p → length (export_run p) ≤ length out
      → (export_payloads p out ≡ written (length (export_run p))) × (export_buffer p out ≡ export_run p ++ drop (length (export_run p)) out)
  unfolding export_payloads export_buffer export_outcome
  exported h n = rw (limits-within p h, le-leb (length (export_run p)) (length out) n) (refl, refl)

  -- a success says that both hold
  exported-is : (export_payloads p out).status ≡ 0 → take (export_payloads p out).count (export_buffer p out) ≡ export_run p
  exported-is z =
      by_cases (within_limits p)
      (λ t.
      by_cases (leb (length (export_run p)) (length out))
      (λ n.
      let e = exported (within-limits p t) (leb-true _ _ n) in
      rw (e.0, e.1) (take-append_seam (export_run p) (drop (length (export_run p)) out)))
      (λ n. absurd (let e = small-export (within-limits p t) (leb-false _ _ n) in let s : 20 ≡ 0 = ap (λ w. w.status) (sym e.0) ∙ z in omega arith)))
      (λ t.
      absurd (let e = too_long (λ h. false-not-true (sym t ∙ limits-within p h)) in let s : 34 ≡ 0 = ap (λ w. w.status) (sym e.0) ∙ z in omega arith))

-- ---- import

back : (p : Payloads) (out : List ℕ) → length (joined p) ≤ length out → Answered (export_run p) out p
unfolding import_segments import_buffer import_outcome
back p out h =
    let n = le-leb (length (joined p)) (length out) h in
    record { lengths = rw (import-export p, n); in_buffer = rw (import-export p, n) }

small-import : (p : Payloads) (out : List ℕ) → length out < length (joined p)
    → (import_segments (export_run p) out ≡ refused_import 20 0) × (import_buffer (export_run p) out ≡ out)
unfolding import_segments import_buffer import_outcome
small-import p out h = rw (import-export p, lt-leb (length (joined p)) (length out) h) (refl, refl)

abbrev Is36 : ℕ → ℕ → Type 0
Is36 s o = (s ≡ 36) × (o ≡ 0)

chunks-refuse : (m k n : ℕ) (l : List ℕ) → Refuses Is36 (chunks_in m k n l)
unfolding chunks_in
chunks-refuse zero k n l = refuses-guard Is36 (is_empty l) 36 0 (ok []) (refl, refl) (refuses-ok Is36 [])
chunks-refuse (suc m) k n l =
    refuses-guard Is36 (holds 226 (icc_prefix k n) l && full m (payload (icc_prefix k n) l)) 36 0 _ (refl, refl)
    (refuses-bind Is36 (chunks_in m (suc k) n (after l)) (λ q. ok (payload (icc_prefix k n) l ++ q)) (chunks-refuse m (suc k) n (after l)) (λ q. refuses-ok Is36 _))

run-refuses : (run : List ℕ) → Refuses Is36 (import_run run)
unfolding import_run icc_in
run-refuses run =
    let e = take_part 225 exif_prefix run in
    let x = take_part 225 xmp_prefix e.1 in
    refuses-bind Is36 (icc_in x.1) (λ i. ok (payloads e.0 x.0 i)) (chunks-refuse _ 1 _ x.1) (λ i. refuses-ok Is36 _)

-- what import answers, by what the run is read as
module _ (run out : List ℕ) where
  refused-run : import_run run ≡ error 36 0 → (import_segments run out ≡ refused_import 36 0) × (import_buffer run out ≡ out)
  unfolding import_segments import_buffer import_outcome
  refused-run e = rw e (refl, refl)

  accepted-run : {P : Type 0} → ((p : Payloads) → import_run run ≡ ok p → P) → (import_run run ≡ error 36 0 → P) → P
  accepted-run {P} f g = by (import_run run) refl
    where
      by : (o : Outcome Payloads) → import_run run ≡ o → P
      by (ok p) e = f p e
      by (error s o) e = let r = run-refuses run s o e in g (subst (λ (s : ℕ). import_run run ≡ error s 0) r.0 (subst (λ (o : ℕ). import_run run ≡ error s o) r.1 e))

  accepted-export : (p : Payloads) → All Byte run → import_run run ≡ ok p → IsExport run p
  accepted-export p b e =
      let x = export-import run b p e in
      record { limits = x.1; bytes = payloads-bytes p (subst (All Byte) x.0 b); is = x.0 }

  -- an export is answered as its payloads, or refused for the buffer's size
  export-answers : (p : Payloads) → run ≡ export_run p → Answered run out p ⊎ ((import_segments run out ≡ refused_import 20 0) × (import_buffer run out ≡ out))
  export-answers p e =
      by_cases (leb (length (joined p)) (length out))
      (λ t. inl (subst (λ (l : List ℕ). Answered l out p) (sym e) (back p out (leb-true _ _ t))))
      (λ t.
      inr (subst (λ (l : List ℕ). (import_segments l out ≡ refused_import 20 0) × (import_buffer l out ≡ out)) (sym e) (small-import p out (leb-false _ _ t))))

  only-accepted : All Byte run → (import_segments run out).status ≡ 0 → (p : Payloads) × IsExport run p × Answered run out p
  only-accepted b z =
      accepted-run
      (λ p e.
      let x = accepted-export p b e in
      ⊎_elim (λ a. (p, x, a)) (λ r. absurd (let s : 20 ≡ 0 = ap (λ w. w.status) (sym r.0) ∙ z in omega arith)) (export-answers p x.is))
      (λ e. absurd (let s : 36 ≡ 0 = ap (λ w. w.status) (sym (refused-run e).0) ∙ z in omega arith))

  exactly-36 : All Byte run → ((import_segments run out).status ≡ 36) ↔ ((p : Payloads) → IsExport run p → ⊥)
  exactly-36 b = (
    λ s p x. ⊎_elim
        (λ a. let z : 0 ≡ 36 = ap (λ w. w.status) (sym a.lengths) ∙ s in omega arith)
        (λ r. let z : 20 ≡ 36 = ap (λ w. w.status) (sym r.0) ∙ s in omega arith)
        (export-answers p x.is),
    λ none. accepted-run (λ p e. absurd (none p (accepted-export p b e))) (λ e. ap (λ w. w.status) (refused-run e).0),
  )

  import-refused : (import_segments run out).status ≢ 0
      → ((import_segments run out ≡ refused_import 36 0) ⊎ (import_segments run out ≡ refused_import 20 0)) × (import_buffer run out ≡ out)
  unfolding import_segments import_buffer import_outcome
  import-refused n =
      accepted-run
      (λ p e.
      by_cases (leb (length (joined p)) (length out))
      (λ t. absurd (n (rw (e, t))))
      (λ t. rw (e, t) (inr refl, refl)))
      (λ e. (inl (refused-run e).0, (refused-run e).1))

-- ---- the records

pub round_trip : RoundTrip
round_trip =
    record {
      back = back;
      from-buffer = λ p out1 out2 z h. subst (λ (l : List ℕ). Answered l out2 p) (sym (exported-is p out1 z)) (back p out2 h);
    }

pub none-shared : NoneShared
none-shared = export-injective

no_payload : export_run (payloads [] [] []) ≡ []
unfolding export_run part chunk_count chunks
no_payload = refl

pub only-exports : OnlyExports
only-exports =
    record {
      accepted = only-accepted;
      exactly-36 = exactly-36;
      empty = λ out. subst (λ (l : List ℕ). Answered l out (payloads [] [] [])) no_payload (back (payloads [] [] []) out (omega arith));
    }

pub well-formed : WellFormed
well-formed = record { skippable = export-skips; bytes = export-bytes }

pub refusals : Refusals
refusals = record { exported = exported; too_long = too_long; small-export = small-export; small-import = small-import; import-refused = import-refused }
