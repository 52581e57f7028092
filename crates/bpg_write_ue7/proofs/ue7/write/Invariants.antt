-- It fills from the last byte back: the groups that are left, put before the bytes from the place on, are as they were where the loop began,
-- and the bytes before that place are untouched.
use Rattle.std.proofs.Common.{◌≡◌, ◌+◌, ◌++◌, length, take, drop}
use Rattle.bpg_ue7.proofs.Ue7Laws.{high}
use Rattle.bpg_write_ue7.proofs.ue7.write.Given as goal

abbrev pub invariant-loop-i : goal.invariant-loop-i
invariant-loop-i l = record {
  bytes : high l.left ++ drop l.i l.out ≡ high l.initial.left ++ drop l.initial.i l.initial.out;
  before : take l.i l.out ≡ take l.i l.initial.out;
  place : l.i ≡ l.start + length (high l.left);
}
