use Rattle.std.proofs.Common.{◌≡◌, ℕ, ◌+◌, ◌<◌, List, [], ◌∷◌, ◌++◌, replicate, sym, ap, ap₂, ◌∙◌, arith, add-one}
use Rattle.std.proofs.Math.ListN.{set}
use Rattle.bpg_format.specs.Limits.{max_entries}
use Rattle.bpg_format.specs.declared.record.Entry.{Entry}
use Rattle.bpg_format.specs.Zero.{zero_entry}
use Rattle.bpg_format.specs.Records.{pad_entries}
use Rattle.bpg_read_entries.proofs.LastEntry.{pad-snoc}
use Rattle.bpg_export_list.specs.Numbers.{fixed_length, list_length}
use Rattle.bpg_import_list.specs.Fields.{entry_at, list_entries}
use Rattle.bpg_import_list.proofs.ListLaws.{entries-more, entries-count}
use Rattle.bpg_import_list.proofs.record.entries.Goals as goal

none : (numbers : List ℕ) (e : Entry) → e ≡ zero_entry → replicate max_entries e ≡ pad_entries (list_entries numbers fixed_length 0)
unfolding list_entries
none numbers e z = ap (replicate max_entries) z

-- one more entry
step : (numbers : List ℕ) (all : List Entry) (k : ℕ) (e : Entry) → k < max_entries → all ≡ pad_entries (list_entries numbers fixed_length k)
    → e ≡ entry_at numbers (list_length k) → set all k e ≡ pad_entries (list_entries numbers fixed_length (k + 1))
step numbers all k e h p q =
    let es = list_entries numbers fixed_length k in
    let n = entries-count numbers fixed_length k in
    ap₂ (λ (l : List Entry) (i : ℕ). set l i e) p (sym n) ∙ pad-snoc es e (omega arith)
    ∙ ap pad_entries (ap (λ (x : Entry). es ++ (x ∷ [])) q ∙ sym (entries-more numbers fixed_length k) ∙ ap (list_entries numbers fixed_length) (sym (add-one k)))

pub loop-k-init : goal.loop-k-init
loop-k-init c = none c.args.numbers.now _ c.default-all.ensures

pub loop-k-preserved : goal.loop-k-preserved
loop-k-preserved c =
    let l = c.loop-k in
    step c.args.numbers.now l.all l.k _ (omega arith) l.invariant c.entry.ensures

pub returns : goal.returns
returns c =
    let l = c.loop-k in
    let n : l.k ≡ c.args.used = omega arith in
    l.invariant ∙ ap (λ (k : ℕ). pad_entries (list_entries c.args.numbers.now fixed_length k)) n
