-- What reading a block answers (document 01, "Order of the file", item 4).
use Rattle.std.specs.Prelude.{false, List, ℕ, Some, None, leb, length, drop}
use Rattle.bpg_codec.specs.Select.{select}
use Rattle.bpg_codec.specs.Outcome.{Outcome, ok, ◌>>=◌, guard}
use Rattle.bpg_format.specs.Limits.{max_entries, max_file}
use Rattle.bpg_format.specs.Content.{Extension}
use Rattle.bpg_format.specs.Rules.{has_animation}
use Rattle.bpg_format.specs.Read.{animation_of, read_entries}
use Rattle.bpg_read_animation.specs.Animations.{animation_of_control}
use Rattle.bpg_read_entries.specs.declared.block.Block.{Block}

-- what is kept of the entries; without one of tag 5 there is no animation control
abbrev pub block_of : List Extension → Block
block_of es =
    record {
      entry_count = length es;
      animation = select (has_animation es) (Some (animation_of_control (animation_of es))) None;
    }

abbrev pub block_answer : Outcome (List Extension) → Outcome Block
block_answer m = m >>= λ es. ok (block_of es)

-- the entries from p to the end of a region; one that is longer than a file may be is 1 at 0
unfoldable pub entries_in : List ℕ → (p : ℕ) → Outcome (List Extension)
entries_in region p = guard (leb (length region) max_file) 1 0 >>= λ _. read_entries max_entries false p (drop p region)
