-- What a call leaves in its buffers, and what it knows of its judgement where it is accepted.
use mathlib.Core.Path.{◌≡◌, sym, ap, ◌∙◌}
use mathlib.Core.Logic.{◌≢◌}
use mathlib.Core.Bool.{Bool, true, false, ◌&&◌}
use mathlib.Core.List.{List, ◌++◌}
use Prim.Native.Nat.{ℕ, ◌≤◌, min}
use native.Mathlib.Omega.{arith}
use lib.Dec.{eqb, leb}
use lib.ListN.{length}
use borrow.Author.Tests.{eq-eqb, ne_eqb, eqb-true, leb-true}
use Rattle.std.specs.List.{list_all}
use Rattle.bpg_codec.specs.Lawful.{All}
use Rattle.bpg_codec.specs.Outcome.{ok, error, ◌>>=◌, guard}
use Rattle.bpg_codec.proofs.Outcome.{unguard, error-not-ok}
use Rattle.bpg_codec.proofs.Select.{is_true, select-true, select-false}
use Rattle.bpg_sample_rules.specs.Rules.{max_sample}
use Rattle.bpg_sample_rules.specs.Planes.{largest}
use Rattle.bpg_sample_check.specs.declared.answer.Converted.{Converted}
use Rattle.bpg_sample_check.specs.Judgement.{sample_count, judged}
use Rattle.bpg_sample_check.specs.Answers.{refused_converted, buffer_after}
use Rattle.bpg_sample_check.proofs.EveryLaws.{and_left, and_right, every-all}
use Rattle.bpg_sample_check.proofs.LargestLaws.{plane-largest}

-- ---- what a buffer holds after the call: as it was after a refusal, and the result after a success

number-not-0 : (x y z : Bool) (n : ℕ) {s o : ℕ} → error s o ≡ (guard x 31 0 >>= λ _. (guard y 32 0 >>= λ _. (guard z 33 0 >>= λ _. ok n))) → s ≢ 0
number-not-0 false y z n {s} e q = let k : s ≡ 31 = cc in omega arith
number-not-0 true false z n {s} e q = let k : s ≡ 32 = cc in omega arith
number-not-0 true true false n {s} e q = let k : s ≡ 33 = cc in omega arith
number-not-0 true true true n e q = absurd (error-not-ok e)

pub kept : (depth : ℕ) (planes buffers : List (List ℕ)) {s : ℕ} {answer : Converted} → error s 0 ≡ judged depth planes buffers → answer ≡ refused_converted s 0
    → (result held : List ℕ) → held ≡ buffer_after answer.status result held
unfolding judged buffer_after
kept depth planes buffers {s} e a result held =
    let n : s ≢ 0 =
    number-not-0 (list_all (λ l. eqb (length l) (sample_count planes)) (planes ++ buffers)) (leb 8 depth && leb depth 14)
    (list_all (list_all (λ s. leb s (max_sample depth))) planes) (sample_count planes) e in
    rw a (sym (select-false _ _ (ne_eqb s 0 n)))

pub stored : {n : ℕ} {answer : Converted} {out result : List ℕ} → answer ≡ record { status = 0; offset = 0; count = n } → out ≡ result
    → (held : List ℕ) → out ≡ buffer_after answer.status result held
unfolding buffer_after
stored a e held = rw a (e ∙ sym (select-true _ _ (eq-eqb 0 0 (omega arith))))

-- what is known where a call is not refused
pub record Accepted (depth : ℕ) (planes buffers : List (List ℕ)) : Type 0 where
  pub lengths : All (λ l. length l ≡ sample_count planes) (planes ++ buffers)
  pub low : 8 ≤ depth
  pub high : depth ≤ 14
  pub samples : All (λ p. largest p ≤ max_sample depth) planes

pub accepted : (depth : ℕ) (planes buffers : List (List ℕ)) {n : ℕ} → ok n ≡ judged depth planes buffers → Accepted depth planes buffers
unfolding judged
accepted depth planes buffers e =
    unguard (list_all (λ l. eqb (length l) (sample_count planes)) (planes ++ buffers)) 31 0 _ (sym e) λ a f.
    unguard (leb 8 depth && leb depth 14) 32 0 _ f λ b g.
    unguard (list_all (list_all (λ s. leb s (max_sample depth))) planes) 33 0 _ g λ c h.
    record {
      lengths = every-all _ _ (λ l. eqb-true (length l) (sample_count planes)) (planes ++ buffers) (is_true _ a);
      low = leb-true 8 depth (and_left (leb 8 depth) (leb depth 14) (is_true _ b));
      high = leb-true depth 14 (and_right (leb 8 depth) (leb depth 14) (is_true _ b));
      samples =
          every-all _ _ (λ p t. leb-true (largest p) (max_sample depth) (sym (plane-largest (max_sample depth) p) ∙ t)) planes
          (is_true _ c);
    }

-- and what `max_sample` answers
pub max_of : {m depth : ℕ} → depth ≤ 14 → m ≡ max_sample (min depth 16) → m ≡ max_sample depth
max_of {m} {depth} h e = let k : min depth 16 ≡ depth = omega arith in e ∙ ap max_sample k
