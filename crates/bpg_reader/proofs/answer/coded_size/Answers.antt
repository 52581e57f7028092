-- `answer::coded_size` meets its contract.
use Rattle.std.proofs.Common.{◌≡◌, ◌*◌, ◌%◌, ◌^◌, sym, arith}
use borrow.Author.Tests.{lt-ltb, le-ltb}
use Rattle.bpg_codec.proofs.Select.{select-true, select-false}
use Rattle.bpg_codec.proofs.Shifts.{one_shifted}
use Rattle.bpg_reader.proofs.answer.coded_size.Goals as goal

pub returns-then-log2_size-gt-LARGEST_LOG2_SIZE : goal.returns-then-log2_size-gt-LARGEST_LOG2_SIZE
returns-then-log2_size-gt-LARGEST_LOG2_SIZE c = sym (select-true _ _ (lt-ltb 6 c.args.log2_size (omega arith)))

pub returns : goal.returns
returns c =
    let n = c.args.log2_size in
    let unit : (1 * 2 ^ c.args.log2_size) % 2 ^ 64 ≡ 2 ^ c.args.log2_size = one_shifted n 64 (omega arith) in
    rw (unit, c.from.ensures) (sym (select-false _ _ (le-ltb 6 n (omega arith))))
