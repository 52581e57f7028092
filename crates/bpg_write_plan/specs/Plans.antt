-- What is known of a record's file before any of it is written.
use Rattle.std.specs.Prelude.{◌≡◌, List, ℕ, ◌+◌, ◌≤◌, leb, length, Result, Ok, Err}
use Rattle.bpg_codec.specs.Outcome.{ok, error, ◌>>=◌, guard}
use Rattle.bpg_codec.specs.Lawful.{All}
use Rattle.bpg_refusal.specs.declared.Reason.{Reason}
use Rattle.bpg_refusal.specs.Numbers.{reason_number}
use Rattle.bpg_format.specs.Limits.{max_entries, max_file}
use Rattle.bpg_format.specs.declared.record.Record.{Record}
use Rattle.bpg_format.specs.Syntax.{file_of}
use Rattle.bpg_format.specs.Records.{used_entries, content_of}
use Rattle.bpg_format.specs.Write.{write_outcome}
use Rattle.bpg_write_plan.specs.declared.plan.Plan.{Plan}
use Rattle.bpg_write_plan.specs.FileParts.{RangeInside, entries_part, file_part}

-- of a record that is written if the buffer holds its file
pub record Ready (r : Record) (source : List ℕ) (p : Plan) : Type 0 where
  -- only a buffer that is too small is refused
  pub only-small : (capacity : ℕ) → let file = file_of (content_of r source) in write_outcome capacity r source ≡ (guard (leb (length file) capacity) 20 0 >>= λ _. ok file)
  -- its fields and ranges
  pub format : r.pixel_format ≤ 5
  pub depth : r.bit_depth_minus_8 ≤ 6
  pub space : r.color_space ≤ 4
  pub few : r.entry_count ≤ max_entries
  pub payloads : All (RangeInside (length source)) (used_entries r)
  pub data-inside : r.«data».start + r.«data».length ≤ length source
  -- the bits of its headers, and the lengths of its parts
  pub alpha-bits : p.alpha.len.0 ≤ 65
  pub color-bits : p.color.len.0 ≤ 65
  pub block-is : p.layout.block ≡ length (entries_part r source)
  pub parts_are : file_part r source p.layout.headers_and_data p.alpha p.color ≡ file_of (content_of r source)
  pub total-is : p.layout.total ≡ length (file_of (content_of r source))
  pub parts-most : (p.layout.block ≤ max_file) × (p.layout.headers_and_data ≤ max_file)
  pub total-most : p.layout.total ≤ max_file

-- a refusal is that of writing, whatever the buffer
abbrev pub Planned : (r : Record) (source : List ℕ) → Result Plan Reason → Type 0
Planned r source (Ok p) = Ready r source p
Planned r source (Err e) = (capacity : ℕ) → write_outcome capacity r source ≡ error (reason_number e) 0
