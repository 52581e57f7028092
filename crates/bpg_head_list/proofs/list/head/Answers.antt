use mathlib.Core.Path.{ap, ◌∙◌}
use Rattle.bpg_head_rules.specs.Calls.{head_numbers}
use Rattle.bpg_head_list.proofs.ListLaws.{head-refused, list-short, list_written}
use Rattle.bpg_head_list.proofs.list.head.Goals as goal

pub returns-in-Err : goal.returns-in-Err
returns-in-Err c =
    let a = head-refused c.args.file.now c.args.numbers.now _ _ c.in-Err.ensures in
    record { value = rw c.refused.ensures a.0; numbers_after = a.1 }

pub returns-then-numbers-lt-HEAD_NUMBERS : goal.returns-then-numbers-lt-HEAD_NUMBERS
returns-then-numbers-lt-HEAD_NUMBERS c =
    let a = list-short c.args.file.now c.args.numbers.now c.in-Ok.found c.in-Ok.ensures c.if-numbers-lt-HEAD_NUMBERS.true in
    record { value = rw (c.refused-then-numbers-lt-HEAD_NUMBERS.ensures, c.at.ensures) a.0; numbers_after = a.1 }

pub returns : goal.returns
returns c =
    let a = list_written c.args.file.now c.args.numbers.now c.in-Ok.found c.in-Ok.ensures c.if-numbers-lt-HEAD_NUMBERS.false
    c.head_numbers.result c.put.new.out (c.head_numbers.ensures ∙ ap head_numbers c.coded.ensures) c.put.ensures in
    record { value = rw c.of.ensures a.0; numbers_after = a.1 }
