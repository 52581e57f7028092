use Rattle.std.proofs.Common.{ℕ, List, ap, ap₂, ◌∙◌}
use Rattle.bpg_format.specs.declared.record.Entry.{Entry}
use Rattle.bpg_format.specs.declared.record.Record.{Record}
use Rattle.bpg_canonical_record.specs.Records.{canonical_entries, record_with}
use Rattle.bpg_canonical_record.proofs.canonical.Goals as goal

pub returns : goal.returns
returns c =
    let r = c.with_flags.new.«record» in
    ap (λ (es : List Entry). record_with r.extension_present_flag r.explicit_length es r.headers r) c.make_canonical.ensures
    ∙ ap₂ (λ (size : ℕ) (x : Record). canonical_entries size x) c.loop_size-size.ensures c.with_flags.ensures
