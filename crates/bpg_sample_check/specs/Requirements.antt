-- Request 7/13's refusals and answers, in its own words and as types over the definition that every call's contract cites. `proofs/Requirements` proves them.
use Rattle.std.specs.Prelude.{◌≡◌, List, ◌++◌, ◌↔◌, ◌≢◌, ℕ, ◌≤◌, length}
use Rattle.bpg_codec.specs.Outcome.{ok, error}
use Rattle.bpg_codec.specs.Lawful.{All}
use Rattle.bpg_sample_rules.specs.Rules.{max_sample}
use Rattle.bpg_sample_check.specs.Judgement.{sample_count, judged}
use Rattle.bpg_sample_check.specs.Answers.{answer_of, buffer_after}

module _ (depth : ℕ) (planes buffers : List (List ℕ)) where
  -- "over all planes and buffers of the call: 31 unequal lengths, a longer buffer too"
  abbrev pub EqualLengths : Type 0
  EqualLengths = All (λ l. length l ≡ sample_count planes) (planes ++ buffers)

  -- "32 depth": it is 8 to 14
  abbrev pub DepthKnown : Type 0
  DepthKnown = (8 ≤ depth) × (depth ≤ 14)

  -- "33 a sample above M in any plane, A and W too"
  abbrev pub SamplesAtMost : Type 0
  SamplesAtMost = All (All (λ s. s ≤ max_sample depth)) planes

  -- a call is refused for these three alone, in this order
  pub record Refusals : Type 0 where
    pub accepted : (judged depth planes buffers ≡ ok (sample_count planes)) ↔ (EqualLengths × DepthKnown × SamplesAtMost)
    pub refusal-31 : (EqualLengths → ⊥) → judged depth planes buffers ≡ error 31 0
    pub refusal-32 : EqualLengths → (DepthKnown → ⊥) → judged depth planes buffers ≡ error 32 0
    pub refusal-33 : EqualLengths → DepthKnown → (SamplesAtMost → ⊥) → judged depth planes buffers ≡ error 33 0

  -- "Each answers status, offset 0 and count"
  pub record Answers : Type 0 where
    pub offset : (answer_of (judged depth planes buffers)).offset ≡ 0
    pub success : (answer_of (judged depth planes buffers)).status ≡ 0 → (answer_of (judged depth planes buffers)).count ≡ sample_count planes
    pub refusal : (answer_of (judged depth planes buffers)).status ≢ 0 → (answer_of (judged depth planes buffers)).count ≡ 0

-- "A refusal leaves every buffer as it was": what a buffer holds after a call that answers this status
pub record Buffers (status : ℕ) (result held : List ℕ) : Type 0 where
  pub success : status ≡ 0 → buffer_after status result held ≡ result
  pub refusal : status ≢ 0 → buffer_after status result held ≡ held
