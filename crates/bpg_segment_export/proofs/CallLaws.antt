-- What export of a file answers, step by step.
use mathlib.Core.Path.{◌≡◌, refl, sym, ap, ◌∙◌, subst}
use mathlib.Core.Bool.{true, false, ◌&&◌, and-false}
use Rattle.std.specs.Prelude.{Some, None}
use mathlib.Core.List.{List}
use mathlib.Core.Logic.{◌≢◌}
use Prim.Native.Nat.{ℕ, ◌≤◌}
use lib.ListN.{length}
use borrow.Author.Tests.{ne_eqb}
use Rattle.bpg_codec.specs.Lawful.{All, Byte}
use Rattle.bpg_format.specs.declared.record.Entry.{Entry}
use Rattle.bpg_format.specs.declared.record.Range.{Range}
use Rattle.bpg_format.specs.declared.answer.Reading.{Reading}
use Rattle.bpg_format.specs.declared.answer.Written.{Written}
use Rattle.bpg_format.specs.Zero.{refused_written}
use Rattle.bpg_format.specs.Records.{bytes_in, used_entries, read_file}
use Rattle.bpg_format.specs.Parts.{range_end, entry_of}
use Rattle.bpg_parts.proofs.PartLaws.{payload-inside}
use Rattle.bpg_segment_rules.specs.Runs.{Payloads, payloads}
use Rattle.bpg_segment_rules.specs.Calls.{export_payloads, export_buffer}
use Rattle.bpg_segment_export.specs.Calls.{with_tag, at_most_one, once_each, payloads_in, file_outcome, export_segments, exported_buffer}
use Rattle.bpg_segment_export.specs.Steps.{only_in}
use Rattle.bpg_segment_export.proofs.TagLaws.{only-none, only-some, first-is}

-- ---- by the file

module _ (f out : List ℕ) where
  abbrev pub Answers : Written → List ℕ → Type 0
  Answers w after = (export_segments f out ≡ w) × (exported_buffer f out ≡ after)

  pub file-unread : (read_file f).status ≢ 0 → Answers (refused_written (read_file f).status (read_file f).offset) out
  unfolding export_segments exported_buffer file_outcome
  file-unread n = rw (ne_eqb (read_file f).status 0 n) (refl, refl)

  module _ (z : (read_file f).status ≡ 0) where
    pub file-twice : once_each f ≡ false → Answers (refused_written 35 0) out
    unfolding export_segments exported_buffer file_outcome
    file-twice h = rw (z, h) (refl, refl)

    pub file-payloads : once_each f ≡ true → Answers (export_payloads (payloads_in f) out) (export_buffer (payloads_in f) out)
    unfolding export_segments exported_buffer file_outcome export_payloads export_buffer
    file-payloads h = rw (z, h) (refl, refl)

-- ---- by what was read

module _ (f out : List ℕ) (r : Reading) (read : r ≡ read_file f) where
  pub unread : r.status ≢ 0 → (refused_written r.status r.offset ≡ export_segments f out) × (out ≡ exported_buffer f out)
  unread n =
      let a = file-unread f out (λ e. n (ap (λ (x : Reading). x.status) read ∙ e)) in
      (ap (λ (x : Reading). refused_written x.status x.offset) read ∙ sym a.0, sym a.1)

  abbrev used : List Entry
  used = used_entries r.«record»

  pub inside : All Byte f → (tag : ℕ) (p : Range) → Some p ≡ only_in tag used → range_end p ≤ length f
  unfolding entry_of
  inside b tag p e =
      subst (λ (x : Range). range_end x ≤ length f) (sym (only-some (with_tag tag used) p e).1)
      (rw read (first-is (λ (x : Entry). range_end x.payload ≤ length f) tag (used_entries (read_file f).«record») (payload-inside f b)))

  module _ (z : r.status ≡ 0) where
    accepted : (read_file f).status ≡ 0
    accepted = ap (λ (x : Reading). x.status) (sym read) ∙ z

    once_is : once_each f ≡ (at_most_one (with_tag 1 used) && (at_most_one (with_tag 3 used) && at_most_one (with_tag 2 used)))
    once_is = sym (rw read)

    twice : once_each f ≡ false → (refused_written 35 0 ≡ export_segments f out) × (out ≡ exported_buffer f out)
    twice h = let x = file-twice f out accepted h in (sym x.0, sym x.1)

    pub exif-twice : None ≡ only_in 1 used → (refused_written 35 0 ≡ export_segments f out) × (out ≡ exported_buffer f out)
    exif-twice e = twice (once_is ∙ rw (only-none (with_tag 1 used) e))

    pub xmp-twice : None ≡ only_in 3 used → (refused_written 35 0 ≡ export_segments f out) × (out ≡ exported_buffer f out)
    xmp-twice e = twice (once_is ∙ rw (only-none (with_tag 3 used) e) (and-false (at_most_one (with_tag 1 used))))

    pub icc-twice : None ≡ only_in 2 used → (refused_written 35 0 ≡ export_segments f out) × (out ≡ exported_buffer f out)
    icc-twice e =
        twice (once_is ∙ rw (only-none (with_tag 2 used) e, and-false (at_most_one (with_tag 3 used))) (and-false (at_most_one (with_tag 1 used))))

    module _ (a b c : Range) (ea : Some a ≡ only_in 1 used) (eb : Some b ≡ only_in 3 used) (ec : Some c ≡ only_in 2 used) where
      all-once : once_each f ≡ true
      all-once = once_is ∙ rw ((only-some _ a ea).0, (only-some _ b eb).0, (only-some _ c ec).0)

      pub once : (e x i : List ℕ) → e ≡ bytes_in f a → x ≡ bytes_in f b → i ≡ bytes_in f c → {w : Written} {after : List ℕ}
          → w ≡ export_payloads (payloads e x i) out → after ≡ export_buffer (payloads e x i) out
          → (w ≡ export_segments f out) × (after ≡ exported_buffer f out)
      once e x i e-is x-is i-is we be =
          let y = file-payloads f out accepted all-once in
          let p : payloads e x i ≡ payloads_in f
          = rw (e-is, x-is, i-is, (only-some _ a ea).1, (only-some _ b eb).1, (only-some _ c ec).1, read) in
          (we ∙ ap (λ (p : Payloads). export_payloads p out) p ∙ sym y.0, be ∙ ap (λ (p : Payloads). export_buffer p out) p ∙ sym y.1)
