use Rattle.std.proofs.Common.{◌≡◌, ℕ, min, ◌≤◌, ◌++◌, List, length, map, take, drop, ap, ◌∙◌, rules}
use Rattle.std.proofs.lemmas.List.Edits.{map_over_more}
use Rattle.std.proofs.Math.ListN.{set}
use Rattle.std.proofs.Math.Seq.{take_all}
use Rattle.std.proofs.lemmas.List.{append-nil, drop_all}
use Rattle.bpg_format.specs.declared.record.Entry.{Entry}
use Rattle.bpg_canonical_record.specs.Records.{canonical_entry, changed}
use Rattle.bpg_canonical_record.proofs.RecordLaws.{changed-front}
use Rattle.bpg_canonical_record.proofs.make_canonical.Goals as goal

-- at the end all of the front is canonical
whole : (f : Entry → Entry) (l items : List Entry) (used count i : ℕ) → used ≡ min count (length l) → length (take used l) ≤ i
    → items ≡ map f (take i (take used l)) ++ drop i (take used l) → items ++ drop used l ≡ changed f count l
whole f l items used count i u h e =
    ap (λ (a : List Entry). a ++ drop used l) (e ∙ rw (take_all i (take used l) h, drop_all i (take used l) h) (append-nil _))
    ∙ changed-front f l used count u

pub loop-entry-preserved : goal.loop-entry-preserved
loop-entry-preserved c =
    let l = c.loop-entry in
    ap (λ (e : Entry). set l.entry-items l.entry-index e) c.canonical_entry.ensures
    ∙ map_over_more (canonical_entry c.args.size) (take c.min-used.result c.args.entries.now) l.entry-items l.entry-index _ c.loop-entry-test.true l.invariant (search rules)

pub returns : goal.returns
returns c =
    let l = c.loop-entry in
    whole (canonical_entry c.args.size) c.args.entries.now l.entry-items c.min-used.result c.args.count l.entry-index c.min-used.ensures c.loop-entry-test.false l.invariant
