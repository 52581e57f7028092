-- The laws of the line buffer: text appended to a buffer that holds text.
use mathlib.Core.Path.{◌≡◌, refl, sym, ap, ap₂, ◌∙◌}
use mathlib.Core.List.{List, [], ◌++◌, append_assoc}
use Prim.Native.Nat.{ℕ, ◌+◌, ◌-◌, ◌≤◌}
use native.Mathlib.Omega.{arith}
use lib.ListN.{length, take, replicate, length-append, length-replicate}
use lib.Seq.{take-append_seam, drop-append-add}
use Rattle.bpg_codec.specs.Buffer.{splice, written, written_end}
use Rattle.bpg_codec.proofs.Buffer.{stored}
use Rattle.bpg_codec.proofs.Lists.{drop-replicate}
use Rattle.bpg_show_line.specs.declared.line_buffer.LineBuffer.{LineBuffer}
use Rattle.bpg_show_line.specs.Text.{decimal}
use Rattle.bpg_show_line.specs.LineBuffer.{line_size, holding, appended}

-- text after text and zeros
after : (l m : List ℕ) (k : ℕ) → splice (l ++ replicate k 0) (length l) m ≡ (l ++ m) ++ replicate (k - length m) 0
after l m k = rw (take-append_seam l (replicate k 0), drop-append-add l (replicate k 0) (length m), drop-replicate {A = ℕ} (length m) k 0, append_assoc)

append-holding : (l m : List ℕ) → length (l ++ m) ≤ line_size → appended (holding l) m ≡ holding (l ++ m)
unfolding appended
append-holding l m h =
    let a = length-append l m in
    let r : length l + length m ≤ length (l ++ replicate (line_size - length l) 0) = rw (length-append, length-replicate) (omega arith) in
    let s = stored (l ++ replicate (line_size - length l) 0) (length l) m r in
    let z : line_size - length l - length m ≡ line_size - length (l ++ m) = omega arith in
    ap₂ {C = LineBuffer} (λ (b : List ℕ) (n : ℕ). record { bytes = b; len = n })
    (sym s.0 ∙ after l m (line_size - length l) ∙ ap (λ (k : ℕ). (l ++ m) ++ replicate k 0) z)
    (sym s.1 ∙ sym a)

-- a buffer that text was gathered in: it holds the text if that is not too long
pub record Gathered (b : LineBuffer) (l : List ℕ) : Type 0 where
  pub holds : length l ≤ line_size → b ≡ holding l

pub gathered_none : {b : LineBuffer} → b ≡ holding [] → Gathered b []
gathered_none e = record { holds = λ h. e }

pub gathered-text : {b c : LineBuffer} {l : List ℕ} (m : List ℕ) → Gathered b l → c ≡ appended b m → Gathered c (l ++ m)
gathered-text {b} {c} {l} m g e =
    record {
      holds = λ h.
          e ∙ ap (λ (x : LineBuffer). appended x m) (g.holds (omega (arith, h, length-append l m))) ∙ append-holding l m h;
    }

-- text that a call gave
pub gathered-same : {b c : LineBuffer} {l m n : List ℕ} → Gathered b l → c ≡ appended b m → m ≡ n → Gathered c (l ++ n)
gathered-same {b} {c} {n = n} g e f = gathered-text n g (e ∙ ap (appended b) f)

-- a label, and a number that was converted first
pub gathered-labelled : {b c : LineBuffer} {l : List ℕ} (m : List ℕ) {v w : ℕ} → Gathered b l → c ≡ appended (appended b m) (decimal w) → w ≡ v
    → Gathered c (l ++ m ++ decimal v)
gathered-labelled m g e f = gathered-same (gathered-text m g refl) e (ap decimal f)

-- what is written of a buffer that holds text is the text
pub writes : (out filled : List ℕ) (n : ℕ) (b : LineBuffer) (l : List ℕ) → b ≡ holding l
    → (filled ≡ written out 0 (take b.len b.bytes)) × (n ≡ written_end out 0 (take b.len b.bytes))
    → (filled ≡ written out 0 l) × (n ≡ written_end out 0 l)
writes out filled n b l e w =
    let t : take b.len b.bytes ≡ l = rw e (take-append_seam l (replicate (line_size - length l) 0)) in
    rw t at w
