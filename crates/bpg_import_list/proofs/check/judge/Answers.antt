use Rattle.std.proofs.Common.{◌≡◌, ℕ, ◌*◌, ◌-◌, List, take, drop, sym, ap, ◌∙◌, arith}
use Rattle.bpg_export_list.specs.Numbers.{fixed_length, list_length}
use Rattle.bpg_import_list.specs.Fields.{count_of}
use Rattle.bpg_import_list.specs.Calls.{words}
use Rattle.bpg_import_list.proofs.StatusLaws.{no-fixed, fixed-large, many, no-entries, entry-large, given}
use Rattle.bpg_import_list.proofs.check.judge.Goals as goal

pub returns-then-numbers-lt-FIXED : goal.returns-then-numbers-lt-FIXED
returns-then-numbers-lt-FIXED c = no-fixed _ c.if-numbers-lt-FIXED.true

pub returns-then-not-fixed_fits : goal.returns-then-not-fixed_fits
returns-then-not-fixed_fits c = fixed-large _ c.if-numbers-lt-FIXED.false (sym c.fixed_fits.ensures ∙ c.if-not-fixed_fits.true)

pub returns-then-entries-gt-MAX_ENTRIES : goal.returns-then-entries-gt-MAX_ENTRIES
returns-then-entries-gt-MAX_ENTRIES c =
    many _ c.if-numbers-lt-FIXED.false (sym c.fixed_fits.ensures ∙ c.if-not-fixed_fits.false) (omega (arith, c.if-entries-gt-MAX_ENTRIES.true, c.u32_at-entries.ensures))

pub returns-then-numbers-end : goal.returns-then-numbers-end
returns-then-numbers-end c =
    no-entries _ c.if-numbers-lt-FIXED.false (sym c.fixed_fits.ensures ∙ c.if-not-fixed_fits.false) (omega (arith, c.if-entries-gt-MAX_ENTRIES.false, c.u32_at-entries.ensures))
    (omega (arith, c.if-numbers-end.true, c.u32_at-entries.ensures))

-- the entries' numbers, as they were lent
lent : (l : List ℕ) (n : ℕ) → n ≡ count_of l → take (list_length n - fixed_length) (drop fixed_length l) ≡ take (4 * count_of l) (drop fixed_length l)
lent l n e = let k : list_length n - fixed_length ≡ 4 * count_of l = omega arith in ap (λ (m : ℕ). take m (drop fixed_length l)) k

pub returns-then-not-words : goal.returns-then-not-words
returns-then-not-words c =
    let l = c.args.numbers.now in
    entry-large l c.if-numbers-lt-FIXED.false (sym c.fixed_fits.ensures ∙ c.if-not-fixed_fits.false) (omega (arith, c.if-entries-gt-MAX_ENTRIES.false, c.u32_at-entries.ensures))
    (omega (arith, c.if-numbers-end.false, c.u32_at-entries.ensures)) (sym (c.words.ensures ∙ ap words (lent l _ c.u32_at-entries.ensures)) ∙ c.if-not-words.true)

pub returns : goal.returns
returns c =
    let l = c.args.numbers.now in
    given l c.if-numbers-lt-FIXED.false (sym c.fixed_fits.ensures ∙ c.if-not-fixed_fits.false) (omega (arith, c.if-entries-gt-MAX_ENTRIES.false, c.u32_at-entries.ensures))
    (omega (arith, c.if-numbers-end.false, c.u32_at-entries.ensures)) (sym (c.words.ensures ∙ ap words (lent l _ c.u32_at-entries.ensures)) ∙ c.if-not-words.false)
