-- What a survey of a file says: its head and the parts that follow it, but for the entries, which are counted.
use Rattle.std.specs.Prelude.{List, ℕ, ◌-◌, length}
use Rattle.bpg_codec.specs.Outcome.{Outcome, ok, ◌>>=◌}
use Rattle.bpg_bytes.specs.Positions.{byte_pos}
use Rattle.bpg_refusal.specs.Outcomes.{outcome}
use Rattle.bpg_format.specs.Content.{Content}
use Rattle.bpg_format.specs.Read.{Head, read_head}
use Rattle.bpg_read_head.specs.Heads.{head_fields}
use Rattle.bpg_read_entries.specs.Blocks.{block_of}
use Rattle.bpg_read_survey.specs.declared.rest.RestSurvey.{RestSurvey}
use Rattle.bpg_read_survey.specs.declared.given.Surveyed.{Surveyed}

-- what a content's file has after the head, in a file of `len` bytes; the data is its end
abbrev pub rest_of : (len : ℕ) → Content → RestSurvey
rest_of len c =
    record {
      block = block_of c.extensions;
      headers = record { value = record { alpha = c.alpha_header; color = c.color_header }; next = byte_pos (len - length c.hevc_data) };
    }

-- what a body says
abbrev pub survey_of : (len : ℕ) → Outcome Content → Outcome RestSurvey
survey_of len o = o >>= λ c. ok (rest_of len c)

-- what a file says: its head, also where the file is refused, and what follows it
abbrev pub survey_parts : Surveyed → Outcome Head × Outcome RestSurvey
survey_parts s = (outcome head_fields s.head, outcome (λ x. x) s.rest)

abbrev pub file_survey : (file : List ℕ) → Outcome Content → Outcome Head × Outcome RestSurvey
file_survey file o = (read_head file, survey_of (length file) o)
