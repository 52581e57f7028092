-- Request 7/13's refusals and answers.
use mathlib.Core.Path.{◌≡◌, refl}
use mathlib.Core.Bool.{Bool, true, false, ◌&&◌}
use mathlib.Core.List.{List, ◌++◌}
use mathlib.Core.Logic.{◌≢◌}
use Prim.Native.Nat.{ℕ, ◌≤◌}
use native.Mathlib.Omega.{arith}
use lib.Dec.{eqb, leb}
use lib.ListN.{length}
use borrow.Author.Tests.{eq-eqb, ne_eqb, eqb-true, le-leb, leb-true}
use Rattle.bpg_codec.specs.Outcome.{Outcome, ok, ◌>>=◌, guard}
use Rattle.bpg_codec.proofs.Outcome.{unguard}
use Rattle.bpg_codec.proofs.Select.{is_true, select-true, select-false}
use Rattle.bpg_sample_rules.specs.Rules.{max_sample}
use Rattle.std.specs.List.{list_all}
use Rattle.bpg_sample_check.specs.Judgement.{sample_count, judged}
use Rattle.bpg_sample_check.specs.Requirements.{EqualLengths, DepthKnown, SamplesAtMost, Refusals, Answers, Buffers}
use Rattle.bpg_sample_check.specs.Answers.{answer_of, buffer_after}
use Rattle.bpg_sample_check.proofs.EveryLaws.{and_left, and_right, every-all, all-every}

not-passed : (b : Bool) → (b ≡ true → ⊥) → b ≡ false
not-passed true n = absurd (n refl)
not-passed false n = refl

-- the outcome of the three tests
abbrev tested : (lengths depth samples : Bool) (count : ℕ) → Outcome ℕ
tested x y z n = guard x 31 0 >>= λ _. (guard y 32 0 >>= λ _. (guard z 33 0 >>= λ _. ok n))

offset-of : (x y z : Bool) (n : ℕ) → (answer_of (tested x y z n)).offset ≡ 0
offset-of false y z n = refl
offset-of true false z n = refl
offset-of true true false n = refl
offset-of true true true n = refl

count_of : (x y z : Bool) (n : ℕ) → (answer_of (tested x y z n)).status ≡ 0 → (answer_of (tested x y z n)).count ≡ n
count_of false y z n e = absurd (omega arith)
count_of true false z n e = absurd (omega arith)
count_of true true false n e = absurd (omega arith)
count_of true true true n e = refl

no-count-of : (x y z : Bool) (n : ℕ) → (answer_of (tested x y z n)).status ≢ 0 → (answer_of (tested x y z n)).count ≡ 0
no-count-of false y z n h = refl
no-count-of true false z n h = refl
no-count-of true true false n h = refl
no-count-of true true true n h = absurd (h refl)

module _ (depth : ℕ) (planes buffers : List (List ℕ)) where
  abbrev length_test : Bool
  length_test = list_all (λ l. eqb (length l) (sample_count planes)) (planes ++ buffers)

  abbrev depth_test : Bool
  depth_test = leb 8 depth && leb depth 14

  abbrev sample_test : Bool
  sample_test = list_all (list_all (λ s. leb s (max_sample depth))) planes

  lengths-pass : length_test ≡ true → EqualLengths depth planes buffers
  lengths-pass = every-all _ _ (λ l. eqb-true (length l) (sample_count planes)) (planes ++ buffers)

  pass-lengths : EqualLengths depth planes buffers → length_test ≡ true
  pass-lengths = all-every _ _ (λ l. eq-eqb (length l) (sample_count planes)) (planes ++ buffers)

  depth-passes : depth_test ≡ true → DepthKnown depth planes buffers
  depth-passes e = (leb-true 8 depth (and_left (leb 8 depth) (leb depth 14) e), leb-true depth 14 (and_right (leb 8 depth) (leb depth 14) e))

  passes-depth : DepthKnown depth planes buffers → depth_test ≡ true
  passes-depth k = rw (le-leb 8 depth k.0, le-leb depth 14 k.1)

  samples-pass : sample_test ≡ true → SamplesAtMost depth planes buffers
  samples-pass = every-all _ _ (every-all (λ s. leb s (max_sample depth)) (λ s. s ≤ max_sample depth) (λ s. leb-true s (max_sample depth))) planes

  pass-samples : SamplesAtMost depth planes buffers → sample_test ≡ true
  pass-samples = all-every _ _ (all-every (λ s. leb s (max_sample depth)) (λ s. s ≤ max_sample depth) (λ s. le-leb s (max_sample depth))) planes

  pub refusals : Refusals depth planes buffers
  unfolding judged
  refusals =
      record {
        accepted = (
          λ e.
              unguard length_test 31 0 _ e λ a f.
              unguard depth_test 32 0 _ f λ b g.
              unguard sample_test 33 0 _ g λ c h.
              (lengths-pass (is_true length_test a), depth-passes (is_true depth_test b), samples-pass (is_true sample_test c)),
          λ k. rw (pass-lengths k.0, passes-depth k.1, pass-samples k.2),
        );
        refusal-31 = λ n. rw (not-passed length_test λ e. n (lengths-pass e));
        refusal-32 = λ k n. rw (pass-lengths k, not-passed depth_test λ e. n (depth-passes e));
        refusal-33 = λ k d n. rw (pass-lengths k, passes-depth d, not-passed sample_test λ e. n (samples-pass e));
      }

  pub answers : Answers depth planes buffers
  unfolding judged
  answers =
      record {
        offset = offset-of length_test depth_test sample_test (sample_count planes);
        success = count_of length_test depth_test sample_test (sample_count planes);
        refusal = no-count-of length_test depth_test sample_test (sample_count planes);
      }

pub buffers-after : (status : ℕ) (result held : List ℕ) → Buffers status result held
unfolding buffer_after
buffers-after status result held =
    record {
      success = λ e. select-true _ _ (eq-eqb status 0 e);
      refusal = λ n. select-false _ _ (ne_eqb status 0 n);
    }
