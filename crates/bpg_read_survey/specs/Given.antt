-- Reading on from a head (request 9/13): "a body call that is given a head and a file and carries on", which "repeats the head over its file and so
-- trusts nobody". Reading itself is `read_content`: the limit, `read_head`, `read_body`, and this is the same with one guard between the two.
use Rattle.std.specs.Prelude.{Bool, List, ◌∷◌, ℕ, T, leb, length, drop}
use Rattle.bpg_codec.specs.Lists.{member}
use Rattle.bpg_codec.specs.Outcome.{Outcome, ◌>>=◌, guard}
use Rattle.bpg_format.specs.Limits.{max_file}
use Rattle.bpg_format.specs.Content.{Content}
use Rattle.bpg_format.specs.Read.{read_head, read_body, reading_statuses}
use Rattle.bpg_head_rules.specs.declared.CodedHead.{CodedHead}
use Rattle.bpg_head_rules.specs.Calls.{coded_head}

-- "the body gives 1, the head's, 21 at 0 for a head that is not this file's, then the rest"; `is_own`: whether the file's head is the one that was given
unfoldable pub read_given : (is_own : CodedHead → Bool) → List ℕ → Outcome Content
read_given is_own l =
    guard (leb (length l) max_file) 1 0 >>= λ _.
    read_head l >>= λ h.
    guard (is_own (coded_head h)) 21 0 >>= λ _.
    read_body h (drop h.end l)

-- reading's numbers and 21: no other is given
abbrev pub body_statuses : List ℕ
body_statuses = 21 ∷ reading_statuses

abbrev pub BodyStatus : ℕ → Type 0
BodyStatus s = T (member s body_statuses)
