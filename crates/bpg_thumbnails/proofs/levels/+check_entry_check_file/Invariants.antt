-- The two call each other, and the levels left fall: 2·left for an entry, 2·left + 1 for a file. The loop: what the entries that are left give is what all give.
use Rattle.std.proofs.Common.{◌≡◌, ◌+◌, drop}
use Rattle.bpg_thumbnails.specs.Thumbnails.{check_entries}
use Rattle.bpg_thumbnails.proofs.LevelLaws.{rest}
use Rattle.bpg_thumbnails.proofs.levels.+check_entry_check_file.Given as goal

abbrev pub decreases-check_entry : goal.decreases-check_entry
decreases-check_entry l = l.left + l.left

abbrev pub decreases-check_file : goal.decreases-check_file
decreases-check_file l = l.left + l.left + 1

abbrev pub invariant-check_file-loop-entry : goal.invariant-check_file-loop-entry
invariant-check_file-loop-entry l = rest l.left l.file l.start (drop l.entry-index l.used) ≡ check_entries l.left l.file l.start
