use Rattle.std.proofs.Common.{◌≤◌, ◌-◌, drop, length}
use Rattle.bpg_segment_reader.specs.Runs.{profile_in}
use Rattle.bpg_segment_import.proofs.CopyLaws.{Copied}
use Rattle.bpg_segment_import.proofs.profile.copy_profile.Given as goal

-- what is written and what is left are the profile
abbrev pub invariant-loop-p : goal.invariant-loop-p
invariant-loop-p l = (l.p ≤ length l.run) × Copied l.run (profile_in (drop l.at l.run)) l.initial.out l.initial.next.0 l.p l.out l.next.0

abbrev pub decreases-loop-p : goal.decreases-loop-p
decreases-loop-p l = length l.run - l.p
