-- Two files compared by their canonical forms: the answer of a comparison is that of the requirement.
use mathlib.Core.Path.{◌≡◌, refl, sym, ap, ◌∙◌, subst}
use mathlib.Core.Bool.{Bool, true, false, and-false}
use mathlib.Core.List.{List, [], ◌∷◌}
use Rattle.std.specs.Cmp.Lexicographic.{pointwise}
use mathlib.Core.Logic.{◌≢◌}
use Prim.Native.Nat.{ℕ, ◌≤◌}
use native.Mathlib.Omega.{arith}
use lib.Dec.{T, eqb}
use lib.ListN.{length, take, length-append}
use borrow.Author.Tests.{ne_eqb}
use Rattle.bpg_codec.specs.Outcome.{Outcome, ok, error}
use Rattle.bpg_codec.specs.Lists.{same}
use Rattle.bpg_codec.proofs.Lists.{same-equal, same_refl}
use Rattle.bpg_format.specs.declared.answer.Written.{Written}
use Rattle.bpg_format.specs.Write.{written_answer, written_buffer}
use Rattle.bpg_format.specs.Pictures.{canonical_outcome, canonical_file, canonical_buffer}
use Rattle.bpg_format.specs.Requirements.{bytes}
use Rattle.bpg_format.proofs.Requirements.{one-form-per-picture}
use Rattle.bpg_canonical.specs.declared.comparison.Comparison.{Comparison}
use Rattle.bpg_canonical.specs.Comparisons.{same_forms, comparison_of, Compares}

pub first-refused : (w1 w2 : Written) (after1 after2 : List ℕ) → w1.status ≢ 0 → false ≡ same_forms w1 after1 w2 after2
first-refused w1 w2 after1 after2 n = rw (ne_eqb _ _ n)

pub second-refused : (w1 w2 : Written) (after1 after2 : List ℕ) → w2.status ≢ 0 → false ≡ same_forms w1 after1 w2 after2
second-refused w1 w2 after1 after2 n = rw (ne_eqb _ _ n) (sym (and-false (eqb w1.status 0)))

-- the library's comparison of two slices
pairs-same : (l m : List ℕ) → pointwise eqb l m ≡ same l m
pairs-same [] [] = refl
pairs-same [] (y ∷ m) = refl
pairs-same (x ∷ l) [] = refl
pairs-same (x ∷ l) (y ∷ m) = rw (pairs-same l m)

pub both-same : (w1 w2 : Written) (after1 after2 : List ℕ) → w1.status ≡ 0 → w2.status ≡ 0
    → pointwise eqb (take w1.count after1) (take w2.count after2) ≡ same_forms w1 after1 w2 after2
both-same w1 w2 after1 after2 e1 e2 = pairs-same (take w1.count after1) (take w2.count after2) ∙ rw (e1, e2)

pub both-written : (w1 w2 : Written) (after1 after2 : List ℕ) (n1 n2 : ℕ) → w1.status ≡ 0 → w2.status ≡ 0 → n1 ≡ w1.count → n2 ≡ w2.count
    → same (take n1 after1) (take n2 after2) ≡ same_forms w1 after1 w2 after2
both-written w1 w2 after1 after2 n1 n2 e1 e2 c1 c2 = rw (c1, c2, e1, e2)

-- what was written lies in the buffer
pub count_fits : (f out : List ℕ) → (canonical_file f out).count ≤ length (canonical_buffer f out)
unfolding canonical_file canonical_buffer
count_fits f out = by (canonical_outcome (length out) f)
  where
    by : (o : Outcome (List ℕ)) → (written_answer o).count ≤ length (written_buffer o out)
    by (ok l) = simp length-append (omega arith)
    by (error s o) = omega arith

true-test : (b : Bool) → b ≡ true → T b
true-test b e = subst T (sym e) tt

test-true : (b : Bool) → T b → b ≡ true
test-true true t = refl
test-true false t = elim t [ ]

pub compares : (f g out1 out2 : List ℕ) → Compares f g out1 out2 (comparison_of f g out1 out2) (canonical_buffer f out1) (canonical_buffer g out2)
compares f g out1 out2 a b h k =
    let x = one-form-per-picture f g out1 out2 a b h k in
    let w1 = canonical_file f out1 in
    let w2 = canonical_file g out2 in
    let l = bytes w1 (canonical_buffer f out1) in
    let m = bytes w2 (canonical_buffer g out2) in
    let z1 = ap (λ (w : Written). w.status) x.first in
    let z2 = ap (λ (w : Written). w.status) x.second in
    let both = sym (both-written w1 w2 (canonical_buffer f out1) (canonical_buffer g out2) _ _ z1 z2 refl refl) in
    record {
      of-first = x;
      of-second = one-form-per-picture g f out2 out1 b a k h;
      same-picture = (
        λ t. let e = same-equal l m (true-test (same l m) (sym both ∙ t)) in
            x.equal.0 (ap (λ (w : Written). w.count) x.first ∙ ap length e ∙ sym (ap (λ (w : Written). w.count) x.second), e),
        λ p. both ∙ test-true (same l m) (subst (λ (y : List ℕ). T (same l y)) (x.equal.1 p).1 (same_refl l)),
      );
    }

-- ---- the call: its answers are those of `canonicalize`, which leave these buffers

pub fits : (f out after : List ℕ) (w : Written) → w ≡ canonical_file f out → after ≡ canonical_buffer f out → w.count ≤ length after
fits f out after w e b = rw (e, b) (count_fits f out)

pub compared : (f g out1 out2 after1 after2 : List ℕ) (w1 w2 : Written) (s : Bool) → w1 ≡ canonical_file f out1 → after1 ≡ canonical_buffer f out1
    → w2 ≡ canonical_file g out2 → after2 ≡ canonical_buffer g out2 → s ≡ same_forms w1 after1 w2 after2
    → let r : Comparison = record { first = w1; second = w2; same = s } in
    (r ≡ comparison_of f g out1 out2) × (after1 ≡ canonical_buffer f out1) × (after2 ≡ canonical_buffer g out2)
    × Compares f g out1 out2 r after1 after2
compared f g out1 out2 after1 after2 w1 w2 s e1 b1 e2 b2 t = rw (t, e1, e2, b1, b2) (refl, refl, refl, compares f g out1 out2)
