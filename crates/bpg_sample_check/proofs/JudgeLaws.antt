-- The judgement of slices of planes and buffers, as the code tests them.
use mathlib.Core.Path.{◌≡◌, refl, ap, ◌∙◌}
use mathlib.Core.Bool.{Bool, true, false, ◌&&◌}
use mathlib.Core.List.{List, [], ◌∷◌, ◌++◌, map}
use Prim.Native.Nat.{ℕ, min}
use lib.Dec.{eqb, leb}
use lib.ListN.{length}
use Rattle.std.proofs.Common.{Bor}
use Rattle.std.specs.List.{list_all}
use Rattle.bpg_codec.specs.Outcome.{ok, error, ◌>>=◌, guard}
use Rattle.bpg_sample_rules.specs.Rules.{max_sample}
use Rattle.bpg_sample_rules.specs.Planes.{largest}
use Rattle.bpg_sample_check.specs.Judgement.{sample_count, judged}
use Rattle.bpg_sample_check.proofs.DepthLaws.{max-known}
use Rattle.bpg_sample_check.proofs.LargestLaws.{plane-largest}

-- what a slice of planes or buffers lends
abbrev pub lent : List (Bor (List ℕ)) → List (List ℕ)
lent = map (λ s. s.now)

module _ (n : ℕ) where
  abbrev pub have_length : List (Bor (List ℕ)) → Bool
  have_length = list_all (λ l. eqb (length l.now) n)

  lengths : (buffers : List (Bor (List ℕ))) → list_all (λ l. eqb (length l) n) (lent buffers) ≡ have_length buffers
  lengths [] = refl
  lengths (b ∷ buffers) = ap (λ (t : Bool). eqb (length b.now) n && t) (lengths buffers)

  and-assoc : (a b c : Bool) → (a && (b && c)) ≡ ((a && b) && c)
  and-assoc true b c = refl
  and-assoc false b c = refl

  all-lengths : (planes buffers : List (Bor (List ℕ)))
      → list_all (λ l. eqb (length l) n) (lent planes ++ lent buffers) ≡ (have_length planes && have_length buffers)
  all-lengths [] buffers = lengths buffers
  all-lengths (p ∷ planes) buffers =
      ap (λ (t : Bool). eqb (length p.now) n && t) (all-lengths planes buffers) ∙ and-assoc (eqb (length p.now) n) (have_length planes) (have_length buffers)

abbrev pub have_samples_within : (m : ℕ) → List (Bor (List ℕ)) → Bool
have_samples_within m = list_all (λ p. leb (largest p.now) m)

samples : (m : ℕ) (planes : List (Bor (List ℕ))) → list_all (list_all (λ s. leb s m)) (lent planes) ≡ have_samples_within m planes
samples m [] = refl
samples m (p ∷ planes) = rw (plane-largest m p.now, samples m planes)

-- by its three tests, where n is the count that the code takes and m its largest sample
module _ (planes buffers : List (Bor (List ℕ))) (depth : ℕ) {n : ℕ} (e : n ≡ sample_count (lent planes)) where
  abbrev depth_test : Bool
  depth_test = leb 8 depth && leb depth 14

  by-tests : judged depth (lent planes) (lent buffers)
      ≡ (guard (have_length n planes && have_length n buffers) 31 0 >>= λ _. (guard depth_test 32 0 >>= λ _.
      (guard (have_samples_within (max_sample depth) planes) 33 0 >>= λ _. ok n)))
  unfolding judged
  by-tests = rw (e, all-lengths (sample_count (lent planes)) planes buffers, samples (max_sample depth) planes)

  pub judged-31 : (have_length n planes && have_length n buffers) ≡ false → error 31 0 ≡ judged depth (lent planes) (lent buffers)
  judged-31 a = rw (by-tests, a)

  pub judged-32 : (have_length n planes && have_length n buffers) ≡ true → depth_test ≡ false → error 32 0 ≡ judged depth (lent planes) (lent buffers)
  judged-32 a b = rw (by-tests, a, b)

  module _ {m : ℕ} (k : m ≡ max_sample (min depth 16)) where
    pub judged-33 : (have_length n planes && have_length n buffers) ≡ true → depth_test ≡ true → have_samples_within m planes ≡ false
        → error 33 0 ≡ judged depth (lent planes) (lent buffers)
    judged-33 a b c = rw (by-tests, a, b, ← max-known depth b k, c)

    pub judged-ok : (have_length n planes && have_length n buffers) ≡ true → depth_test ≡ true → have_samples_within m planes ≡ true
        → ok n ≡ judged depth (lent planes) (lent buffers)
    judged-ok a b c = rw (by-tests, a, b, ← max-known depth b k, c)
