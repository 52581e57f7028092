-- Request 7/13 on limited luma.
use mathlib.Core.Path.{◌≡◌, refl, ◌∙◌}
use mathlib.Core.Bool.{Bool, true, false}
use mathlib.Core.List.{List, [], ◌∷◌}
use mathlib.Core.Logic.{◌≢◌}
use Prim.Native.Nat.{ℕ}
use native.Mathlib.Omega.{arith}
use lib.Dec.{eqb, leb}
use lib.ListN.{length}
use Rattle.std.specs.List.{list_all}
use Rattle.bpg_codec.specs.Outcome.{ok, error, ◌>>=◌, guard}
use Rattle.bpg_sample_rules.specs.Rules.{max_sample}
use Rattle.bpg_sample_rules.proofs.Luma.{luma-monotone}
use Rattle.bpg_sample_rules.proofs.Requirements.{luma}
use Rattle.bpg_sample_check.specs.Judgement.{judged}
use Rattle.bpg_limited_luma.specs.Requirements.{LimitedLuma}

no-32-of : (a b : Bool) (n : ℕ) → (guard a 31 0 >>= λ _. (guard b 33 0 >>= λ _. ok n)) ≢ error 32 0
no-32-of true true n e = let z : ◌≡◌ {A = ℕ} 0 1 = cc in omega arith
no-32-of true false n e = let z : ◌≡◌ {A = ℕ} 33 32 = cc in omega arith
no-32-of false b n e = let z : ◌≡◌ {A = ℕ} 31 32 = cc in omega arith

no-32-in : (y out : List ℕ) → judged 8 (y ∷ []) (out ∷ []) ≢ error 32 0
unfolding judged
no-32-in y out = no-32-of (list_all (λ l. eqb (length l) (length y)) (y ∷ out ∷ [])) (list_all (list_all (λ s. leb s (max_sample 8))) (y ∷ [])) (length y)

pub limited-luma : LimitedLuma
unfolding max_sample
limited-luma =
    record {
      tables = λ t h.
          record {
            monotone = λ y z l k.
                let e = h.value y (omega arith) in
                let f = h.value z k in
                omega (arith, e, f, luma-monotone y z l);
            at-16 = h.value 16 (omega arith) ∙ luma.at-16;
            at-235 = h.value 235 (omega arith) ∙ luma.at-235;
          };
      most = refl;
      no-32 = no-32-in;
    }
