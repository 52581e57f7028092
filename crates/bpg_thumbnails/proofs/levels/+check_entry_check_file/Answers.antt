-- `levels::check_entry` and `levels::check_file` meet their contracts, case by case.
use Rattle.std.proofs.Common.{◌≡◌, ◌∙◌, ◌+◌, arith}
use Rattle.std.proofs.lemmas.Result.{err_from_is_err_and}
use Rattle.bpg_thumbnails.proofs.LevelLaws.{entry_other, entry-deep, entry-unread, entry-large, entry-entered, thumbnail-at}
use Rattle.bpg_thumbnails.proofs.LevelLaws.{count_most, entry_at, rest_all, file-stops, file-goes-on, file-ends}
use Rattle.bpg_thumbnails.proofs.levels.+check_entry_check_file.Goals as goal

pub check_entry-returns-then-entry-ne4 : goal.check_entry-returns-then-entry-ne4
check_entry-returns-then-entry-ne4 t c = search entry_other

pub check_entry-returns-in_default : goal.check_entry-returns-in_default
check_entry-returns-in_default t c =
    let z : c.args.left ≡ 0 = omega (arith, c.in_default.ensures) in rw c.at.ensures (search entry-deep)

pub check_entry-returns-then-reading-ne0 : goal.check_entry-returns-then-reading-ne0
check_entry-returns-then-reading-ne0 t c =
    let n : c.args.left ≡ c.in-Some.below + 1 = omega (arith, c.in-Some.ensures) in rw c.at-then-reading-ne0.ensures (search entry-unread)

pub check_entry-returns-then-not-is_smaller : goal.check_entry-returns-then-not-is_smaller
check_entry-returns-then-not-is_smaller t c =
    let n : c.args.left ≡ c.in-Some.below + 1 = omega (arith, c.in-Some.ensures) in
    let s = rw c.of.ensures at c.is_smaller.ensures in
    rw c.at-then-not-is_smaller.ensures (search entry-large)

pub check_entry-check_file-requires : goal.check_entry-check_file-requires
check_entry-check_file-requires t c = (omega (arith, c.in-Some.ensures), search thumbnail-at)

pub check_entry-returns : goal.check_entry-returns
check_entry-returns t c =
    let n : c.args.left ≡ c.in-Some.below + 1 = omega (arith, c.in-Some.ensures) in
    let s = rw c.of.ensures at c.is_smaller.ensures in
    c.check_file.ensures ∙ (search entry-entered)

pub check_file-shared_ref_as_front-used : goal.check_file-shared_ref_as_front-used
check_file-shared_ref_as_front-used t c = count_most c.requires

pub check_file-loop-entry-init : goal.check_file-loop-entry-init
check_file-loop-entry-init t c = rest_all c.requires _

pub check_file-check_entry-requires : goal.check_file-check_entry-requires
check_file-check_entry-requires t c = (omega arith, rw c.of-size.ensures (entry_at c.requires _ c.loop-entry-test.true))

pub check_file-returns-in_err-check_entry : goal.check_file-returns-in_err-check_entry
check_file-returns-in_err-check_entry t c =
    let p = err_from_is_err_and c.from_residual.result c.from_residual.ensures.1 in
    rw (p.1, p.2) (file-stops c.requires _ c.loop-entry-test.true _ c.loop-entry.invariant _ _ c.in_err-check_entry.ensures)

pub check_file-loop-entry-preserved : goal.check_file-loop-entry-preserved
check_file-loop-entry-preserved t c = file-goes-on c.requires _ c.loop-entry-test.true _ c.loop-entry.invariant _ c.in_ok-check_entry.ensures

pub check_file-returns : goal.check_file-returns
check_file-returns t c = file-ends _ _ _ _ _ c.loop-entry.invariant c.loop-entry-test.false
