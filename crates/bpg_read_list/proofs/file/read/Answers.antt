-- `file::read` meets its contract.
use Rattle.std.proofs.Common.{◌≡◌, List, ℕ, ◌≤◌, ◌<◌, length, sym, ap, ◌∙◌, subst, arith}
use Rattle.std.specs.Prelude.{option_copied}
use lib.Seq.{length-take-le}
use Rattle.bpg_codec.proofs.Tokens.{all-bytes}
use Rattle.bpg_format.specs.declared.answer.Reading.{Reading}
use Rattle.bpg_format.specs.Zero.{refused_written}
use Rattle.bpg_format.specs.Records.{entries_at, read_file}
use Rattle.bpg_codec.specs.Buffer.{written}
use Rattle.bpg_read_survey.specs.declared.given.FileSurvey.{FileSurvey}
use Rattle.bpg_read_survey.specs.Bodies.{asked}
use Rattle.bpg_read_survey.proofs.FileRead.{FileRead, survey-err, survey-read, head_there, short, data-inside, min-cb-small}
use Rattle.bpg_read_survey.proofs.Walking.{begins, end-inside, entry_reads, ends-inside}
use Rattle.bpg_reader.proofs.GivenLaws.{answered}
use Rattle.bpg_export_list.specs.Numbers.{fixed_length, list_length, entries_numbers}
use Rattle.bpg_export_list.proofs.NumberLaws.{written-length}
use Rattle.bpg_export_list.proofs.WriteLaws.{Answers}
use Rattle.bpg_read_list.specs.Surveyed.{survey_numbers}
use Rattle.bpg_read_list.proofs.Listing.{listed-refused, none-listed, lists, all_listed, too_short, listed-file}
use Rattle.bpg_read_list.proofs.file.read.Goals as goal

pub returns-in-Err-clause-value : goal.returns-in-Err-clause-value
returns-in-Err-clause-value c =
    let given = option_copied c.args.given in
    c.refused.ensures ∙ (listed-refused c.args.numbers.now given c.args.file.now _ _ (survey-err (asked given) c.args.file.now c.survey-found.result c.survey-found.ensures c.in-Err.refusal c.in-Err.is)).0

pub returns-in-Err-clause-numbers_after : goal.returns-in-Err-clause-numbers_after
returns-in-Err-clause-numbers_after c =
    let given = option_copied c.args.given in
    (listed-refused c.args.numbers.now given c.args.file.now _ _ (survey-err (asked given) c.args.file.now c.survey-found.result c.survey-found.ensures c.in-Err.refusal c.in-Err.is)).1

-- the list is too short for an accepted file
short-list : (numbers file : List ℕ) (s : FileSurvey) → FileRead file s.head s.rest → (r : Reading) → read_file file ≡ r
    → length numbers < list_length s.rest.block.entry_count → Answers numbers r (refused_written 20 0) numbers
short-list numbers file s w r e h = subst (λ (r : Reading). Answers numbers r (refused_written 20 0) numbers) e (too_short numbers file s w h)

pub unwrap-head-requires : goal.unwrap-head-requires
unwrap-head-requires c = head_there (asked (option_copied c.args.given)) c.args.file.now c.survey-found.result c.survey-found.ensures c.in-Ok.rest c.in-Ok.is

pub returns-then-numbers-used-clause-value : goal.returns-then-numbers-used-clause-value
returns-then-numbers-used-clause-value c =
    let given = option_copied c.args.given in
    let file = c.args.file.now in
    let bytes = all-bytes c.args.file.now (λ i. omega (arith, c.type_inv.file i)) in
    let s = survey-read (asked (option_copied c.args.given)) c.args.file.now c.survey-found.result c.survey-found.ensures c.in-Ok.rest c.in-Ok.is bytes c.unwrap-head.result c.unwrap-head.ensures in
    rw c.at.ensures at c.refused-then-numbers-used.ensures
    ∙ (short-list c.args.numbers.now file (record { head = c.unwrap-head.result; rest = c.in-Ok.rest }) s.0 _ (answered given file s.1) (omega arith)).0

pub returns-then-numbers-used-clause-numbers_after : goal.returns-then-numbers-used-clause-numbers_after
returns-then-numbers-used-clause-numbers_after c =
    let given = option_copied c.args.given in
    let file = c.args.file.now in
    let bytes = all-bytes c.args.file.now (λ i. omega (arith, c.type_inv.file i)) in
    let s = survey-read (asked (option_copied c.args.given)) c.args.file.now c.survey-found.result c.survey-found.ensures c.in-Ok.rest c.in-Ok.is bytes c.unwrap-head.result c.unwrap-head.ensures in
    (short-list c.args.numbers.now file (record { head = c.unwrap-head.result; rest = c.in-Ok.rest }) s.0 _ (answered given file s.1) (omega arith)).1

pub put_fixed-requires-clause-next_le_len : goal.put_fixed-requires-clause-next_le_len
put_fixed-requires-clause-next_le_len c =
    let given = option_copied c.args.given in
    let file = c.args.file.now in
    let bytes = all-bytes c.args.file.now (λ i. omega (arith, c.type_inv.file i)) in
    let s = survey-read (asked (option_copied c.args.given)) c.args.file.now c.survey-found.result c.survey-found.ensures c.in-Ok.rest c.in-Ok.is bytes c.unwrap-head.result c.unwrap-head.ensures in
    data-inside s.0

pub put_fixed-requires-clause-log2_min_luma_coding_block_size_minus3_bound : goal.put_fixed-requires-clause-log2_min_luma_coding_block_size_minus3_bound
put_fixed-requires-clause-log2_min_luma_coding_block_size_minus3_bound c =
    let given = option_copied c.args.given in
    let file = c.args.file.now in
    let bytes = all-bytes c.args.file.now (λ i. omega (arith, c.type_inv.file i)) in
    let s = survey-read (asked (option_copied c.args.given)) c.args.file.now c.survey-found.result c.survey-found.ensures c.in-Ok.rest c.in-Ok.is bytes c.unwrap-head.result c.unwrap-head.ensures in
    min-cb-small s.0

pub overflow_add-end : goal.overflow_add-end
overflow_add-end c =
    let given = option_copied c.args.given in
    let file = c.args.file.now in
    let bytes = all-bytes c.args.file.now (λ i. omega (arith, c.type_inv.file i)) in
    let s = survey-read (asked (option_copied c.args.given)) c.args.file.now c.survey-found.result c.survey-found.ensures c.in-Ok.rest c.in-Ok.is bytes c.unwrap-head.result c.unwrap-head.ensures in
    record { fits = omega (arith, end-inside s.0, short s.0) }

-- the list is as long as before
kept : (numbers fixed o : List ℕ) → o ≡ written numbers 0 fixed → length fixed ≡ fixed_length → fixed_length ≤ length numbers → length o ≡ length numbers
kept numbers fixed o e n h = ap length e ∙ written-length numbers 0 fixed (omega arith)

pub loop-k-init : goal.loop-k-init
loop-k-init c =
    let given = option_copied c.args.given in
    let file = c.args.file.now in
    let bytes = all-bytes c.args.file.now (λ i. omega (arith, c.type_inv.file i)) in
    let s = survey-read (asked (option_copied c.args.given)) c.args.file.now c.survey-found.result c.survey-found.ensures c.in-Ok.rest c.in-Ok.is bytes c.unwrap-head.result c.unwrap-head.ensures in
    let same = kept c.args.numbers.now (survey_numbers (length file) (record { head = c.unwrap-head.result; rest = c.in-Ok.rest })) c.put_fixed.new.out c.put_fixed.ensures.out_after c.put_fixed.ensures.found_value (omega arith) in
    none-listed _ (omega (arith, same)) (begins s.0)

pub slice_bounds-read_checked-end : goal.slice_bounds-read_checked-end
slice_bounds-read_checked-end c =
    let given = option_copied c.args.given in
    let file = c.args.file.now in
    let bytes = all-bytes c.args.file.now (λ i. omega (arith, c.type_inv.file i)) in
    let s = survey-read (asked (option_copied c.args.given)) c.args.file.now c.survey-found.result c.survey-found.ensures c.in-Ok.rest c.in-Ok.is bytes c.unwrap-head.result c.unwrap-head.ensures in
    sym (length-take-le _ file (end-inside s.0))

pub unwrap-step-requires : goal.unwrap-step-requires
unwrap-step-requires c = entry_reads c.loop-k.invariant.walking c.loop-k-test.true c.read_checked.result c.read_checked.ensures

pub overflow_sub-start : goal.overflow_sub-start
overflow_sub-start c = ends-inside c.loop-k.invariant.walking c.loop-k-test.true c.read_checked.result c.read_checked.ensures c.unwrap-step.result c.unwrap-step.ensures

pub loop-k-preserved : goal.loop-k-preserved
loop-k-preserved c =
    lists c.loop-k.invariant c.loop-k-test.true c.read_checked.result c.read_checked.ensures c.unwrap-step.result c.unwrap-step.ensures _ c.put_entry.ensures

-- all of the list
whole-list : (numbers file : List ℕ) (s : FileSurvey) (w : FileRead file s.head s.rest) (r : Reading) → read_file file ≡ r → (o p : List ℕ)
    → list_length s.rest.block.entry_count ≤ length numbers → o ≡ written numbers 0 (survey_numbers (length file) s) → length (survey_numbers (length file) s) ≡ fixed_length
    → p ≡ written o fixed_length (entries_numbers (entries_at s.head.end.0 w.content.extensions))
    → Answers numbers r (record { status = 0; offset = 0; count = list_length s.rest.block.entry_count }) p
whole-list numbers file s w r e o p h a n b =
    subst (λ (r : Reading). Answers numbers r (record { status = 0; offset = 0; count = list_length s.rest.block.entry_count }) p) e
    (listed-file numbers file s w o p h n a b)

pub returns-clause-value : goal.returns-clause-value
returns-clause-value c =
    let given = option_copied c.args.given in
    let file = c.args.file.now in
    let bytes = all-bytes c.args.file.now (λ i. omega (arith, c.type_inv.file i)) in
    let s = survey-read (asked (option_copied c.args.given)) c.args.file.now c.survey-found.result c.survey-found.ensures c.in-Ok.rest c.in-Ok.is bytes c.unwrap-head.result c.unwrap-head.ensures in
    c.of.ensures
    ∙ (whole-list c.args.numbers.now file (record { head = c.unwrap-head.result; rest = c.in-Ok.rest }) s.0 _ (answered given file s.1) _ c.loop-k.numbers (omega arith) c.put_fixed.ensures.out_after c.put_fixed.ensures.found_value
    (all_listed c.loop-k.invariant c.loop-k-test.false s.0.content s.0.read)).0

pub returns-clause-numbers_after : goal.returns-clause-numbers_after
returns-clause-numbers_after c =
    let given = option_copied c.args.given in
    let file = c.args.file.now in
    let bytes = all-bytes c.args.file.now (λ i. omega (arith, c.type_inv.file i)) in
    let s = survey-read (asked (option_copied c.args.given)) c.args.file.now c.survey-found.result c.survey-found.ensures c.in-Ok.rest c.in-Ok.is bytes c.unwrap-head.result c.unwrap-head.ensures in
    (whole-list c.args.numbers.now file (record { head = c.unwrap-head.result; rest = c.in-Ok.rest }) s.0 _ (answered given file s.1) _ c.loop-k.numbers (omega arith) c.put_fixed.ensures.out_after c.put_fixed.ensures.found_value
    (all_listed c.loop-k.invariant c.loop-k-test.false s.0.content s.0.read)).1
