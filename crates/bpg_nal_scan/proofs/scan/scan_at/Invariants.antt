-- The scan from `from` on answers what the scan from the start does.
use Rattle.std.proofs.Common.{◌≡◌, ◌-◌, length}
use Rattle.bpg_nal_scan.specs.Scans.{scan_at}
use Rattle.bpg_nal_scan.proofs.scan.scan_at.Given as goal

abbrev pub invariant-loop-from : goal.invariant-loop-from
invariant-loop-from l = scan_at l.region l.fn.start.0 ≡ scan_at l.region l.from.0

abbrev pub decreases-loop-from : goal.decreases-loop-from
decreases-loop-from l = length l.region - l.from.0
