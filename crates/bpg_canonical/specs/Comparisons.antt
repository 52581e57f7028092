-- Two files compared by their canonical forms: the store's question whether they show the same picture.
use Rattle.std.specs.Prelude.{◌≡◌, Bool, true, ◌&&◌, List, ◌↔◌, ℕ, ◌≤◌, eqb, length}
use Rattle.bpg_codec.specs.Lists.{same}
use Rattle.bpg_format.specs.declared.answer.Written.{Written}
use Rattle.bpg_format.specs.Rules.{Accepted}
use Rattle.bpg_format.specs.Pictures.{canonical_bytes, SamePicture, canonical_file, canonical_buffer}
use Rattle.bpg_format.specs.Requirements.{bytes, Canonicalized}
use Rattle.bpg_canonical.specs.declared.comparison.Comparison.{Comparison}

-- both were written, and the same bytes; `after1` and `after2` are the buffers at exit
abbrev pub same_forms : Written → (after1 : List ℕ) → Written → (after2 : List ℕ) → Bool
same_forms w1 after1 w2 after2 = eqb w1.status 0 && (eqb w2.status 0 && same (bytes w1 after1) (bytes w2 after2))

abbrev pub comparison_of : (f g out1 out2 : List ℕ) → Comparison
comparison_of f g out1 out2 =
    record {
      first = canonical_file f out1;
      second = canonical_file g out2;
      same = same_forms (canonical_file f out1) (canonical_buffer f out1) (canonical_file g out2) (canonical_buffer g out2);
    }

-- requirement 3 for the files f and g, over what a call answers and its buffers `out1` and `out2`, which it leaves as `after1` and `after2`
pub record Compared (f g out1 out2 : List ℕ) (r : Comparison) (after1 after2 : List ℕ) : Type 0 where
  pub of-first : Canonicalized f g out1 out2 r.first r.second after1 after2
  pub of-second : Canonicalized g f out2 out1 r.second r.first after2 after1
  pub same-picture : (r.same ≡ true) ↔ SamePicture f g

-- its premise: the files are accepted, and each buffer holds the canonical form that is written into it
abbrev pub Compares : (f g out1 out2 : List ℕ) → Comparison → (after1 after2 : List ℕ) → Type 0
Compares f g out1 out2 r after1 after2 =
    (a : Accepted f) (b : Accepted g) → length (canonical_bytes a.0) ≤ length out1 → length (canonical_bytes b.0) ≤ length out2
    → Compared f g out1 out2 r after1 after2
