-- What a call on samples is refused for (request 7/13): "Refusals, in order: 31 planes or room of unequal length; 32 depth outside 8 to 14; 33 a
-- sample above M." Room is the buffers that a call writes.
use Rattle.std.specs.Prelude.{◌&&◌, List, [], ◌∷◌, ◌++◌, ℕ, eqb, leb, length}
use Rattle.std.specs.List.{list_all}
use Rattle.bpg_codec.specs.Outcome.{Outcome, ok, ◌>>=◌, guard}
use Rattle.bpg_sample_rules.specs.Rules.{max_sample}

-- how many samples a plane has: as many as the first
abbrev pub sample_count : (planes : List (List ℕ)) → ℕ
sample_count [] = 0
sample_count (p ∷ ps) = length p

-- the count, or the first refusal
unfoldable pub judged : (depth : ℕ) (planes buffers : List (List ℕ)) → Outcome ℕ
judged depth planes buffers =
    guard (list_all (λ l. eqb (length l) (sample_count planes)) (planes ++ buffers)) 31 0 >>= λ _.
    guard (leb 8 depth && leb depth 14) 32 0 >>= λ _.
    guard (list_all (list_all (λ s. leb s (max_sample depth))) planes) 33 0 >>= λ _.
    ok (sample_count planes)
