-- Request 7/13 on limited luma, in its own words. `proofs/Requirements` proves them.
use Rattle.std.specs.Prelude.{◌≡◌, List, [], ◌∷◌, ◌≢◌, ℕ, ◌≤◌, ◌<◌, get_or}
use Rattle.bpg_codec.specs.Outcome.{error}
use Rattle.bpg_sample_rules.specs.Rules.{max_sample, full_luma}
use Rattle.bpg_sample_check.specs.Judgement.{judged}
use Rattle.bpg_limited_luma.specs.Tables.{TableOf}

-- "the luma table is monotone and takes 16 to 0 and 235 to 255": a table of the rule, as the call's is
pub record Table (table : List ℕ) : Type 0 where
  pub monotone : (y z : ℕ) → y ≤ z → z < 256 → get_or table y 0 ≤ get_or table z 0
  pub at-16 : get_or table 16 0 ≡ 0
  pub at-235 : get_or table 235 0 ≡ 255

pub record LimitedLuma : Type 0 where
  pub tables : (table : List ℕ) → TableOf 256 full_luma table → Table table
  -- "a sample above 255 is 33"
  pub most : max_sample 8 ≡ 255
  -- "and there is no depth to be refused"
  pub no-32 : (y out : List ℕ) → judged 8 (y ∷ []) (out ∷ []) ≢ error 32 0
