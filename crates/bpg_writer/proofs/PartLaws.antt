-- The parts of a file as what is written one after another.
use mathlib.Core.Path.{◌≡◌, refl, sym, ap, ◌∙◌}
use mathlib.Core.List.{List, [], ◌∷◌, ◌++◌, map, append_assoc, append-nil}
use Prim.Native.Nat.{ℕ, suc, ◌+◌, ◌≤◌, ◌<◌}
use native.Mathlib.Omega.{arith}
use lib.ListN.{length, take, drop, get_or, length-append, take-append-drop}
use lib.Seq.{take-suc}
use Rattle.bpg_ue7.specs.Ue7.{ue7_bytes}
use Rattle.bpg_format.specs.declared.record.Entry.{Entry}
use Rattle.bpg_format.specs.Zero.{zero_entry}
use Rattle.bpg_format.specs.Syntax.{extension_bytes, block_bytes}
use Rattle.bpg_format.specs.Records.{bytes_in, extension_of}
use Rattle.bpg_write_plan.proofs.SizeLaws.{range_length}
use Rattle.bpg_writer.proofs.PutLaws.{Put, put-end, put_same, put_then}

pub entry-bytes : (source : List ℕ) (e : Entry) → e.payload.start + e.payload.length ≤ length source → (n : ℕ) → n ≡ e.payload.length
    → ue7_bytes e.tag ++ (ue7_bytes e.payload.length ++ take n (drop e.payload.start source)) ≡ extension_bytes (extension_of source e)
entry-bytes source e h n w =
    ap (λ (k : ℕ). ue7_bytes e.tag ++ (ue7_bytes e.payload.length ++ take k (drop e.payload.start source))) w
    ∙ ap (λ (k : ℕ). ue7_bytes e.tag ++ (ue7_bytes k ++ bytes_in source e.payload)) (sym (range_length source e.payload h))

-- ---- the entries

module _ (source : List ℕ) where
  abbrev pub bytes_of : List Entry → List ℕ
  bytes_of es = block_bytes (map (extension_of source) es)

  bytes-append : (es fs : List Entry) → bytes_of (es ++ fs) ≡ bytes_of es ++ bytes_of fs
  bytes-append [] fs = refl
  bytes-append (e ∷ es) fs = ap (λ (l : List ℕ). extension_bytes (extension_of source e) ++ l) (bytes-append es fs) ∙ sym (append_assoc (extension_bytes (extension_of source e)) (bytes_of es) (bytes_of fs))

  pub bytes_next : (es : List Entry) (k : ℕ) → k < length es → bytes_of (take (k + 1) es) ≡ bytes_of (take k es) ++ extension_bytes (extension_of source (get_or es k zero_entry))
  bytes_next es k h =
      let n : k + 1 ≡ suc k = omega arith in
      let e = get_or es k zero_entry in
      ap (λ (m : ℕ). bytes_of (take m es)) n ∙ ap bytes_of (take-suc es k zero_entry h) ∙ bytes-append (take k es) (e ∷ [])
      ∙ ap (λ (l : List ℕ). bytes_of (take k es) ++ l) (append-nil (extension_bytes (extension_of source e)))

-- ---- one entry after the other, into a buffer that holds them all

module _ (source : List ℕ) (es : List Entry) (out : List ℕ) (at : ℕ) (fits : at + length (bytes_of source es) ≤ length out) (k : ℕ) where
  abbrev first : ℕ → List ℕ
  first n = bytes_of source (take n es)

  abbrev one : List ℕ
  one = extension_bytes (extension_of source (get_or es k zero_entry))

  grown : (n : ℕ) → at + length (first n) ≤ length out
  grown n =
      let e = ap (λ (l : List Entry). length (bytes_of source l)) (sym (take-append-drop n es)) in
      omega (arith, fits, e, ap length (bytes-append source (take n es) (drop n es)), length-append (first n) (bytes_of source (drop n es)))

  module _ (more : k < length es) {after : List ℕ} {next : ℕ} (so_far : Put out at (first k) after next) where
    next-fits : at + length (first k ++ one) ≤ length out
    next-fits = omega (arith, grown (k + 1), ap length (bytes_next source es k more))

    pub entry-fits : next + length one ≤ length after
    entry-fits = let e = put-end out at (first k) (grown k) so_far in omega (arith, next-fits, e.0, e.1, length-append (first k) one)

    pub entry-put : {after2 : List ℕ} {next2 : ℕ} → Put after next one after2 next2 → Put out at (first (k + 1)) after2 next2
    entry-put p = put_same out at (sym (bytes_next source es k more)) (put_then out at (first k) one next-fits so_far λ _. p)
