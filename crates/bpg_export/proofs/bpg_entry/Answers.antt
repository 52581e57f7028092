-- What `entry_at` found, or that it found none, is what the call answers.
use Rattle.std.proofs.Common.{ap, ◌∙◌}
use Rattle.bpg_format.specs.declared.record.Entry.{Entry}
use Rattle.bpg_export.proofs.CallLaws.{answered}
use Rattle.bpg_export.proofs.bpg_entry.Goals as goal

pub returns-clause-value : goal.returns-clause-value
returns-clause-value c =
    c.is_some.ensures ∙ (answered c.args.file.now c.args.k _ c.entry_at-found.ensures _ _ c.default.ensures c.unwrap_or-entry.ensures).0

pub returns-clause-tag_after : goal.returns-clause-tag_after
returns-clause-tag_after c =
    ap (λ (y : Entry). y.tag) (answered c.args.file.now c.args.k _ c.entry_at-found.ensures _ _ c.default.ensures c.unwrap_or-entry.ensures).1

pub returns-clause-start_after : goal.returns-clause-start_after
returns-clause-start_after c =
    ap (λ (y : Entry). y.payload.start) (answered c.args.file.now c.args.k _ c.entry_at-found.ensures _ _ c.default.ensures c.unwrap_or-entry.ensures).1

pub returns-clause-length_after : goal.returns-clause-length_after
returns-clause-length_after c =
    ap (λ (y : Entry). y.payload.length) (answered c.args.file.now c.args.k _ c.entry_at-found.ensures _ _ c.default.ensures c.unwrap_or-entry.ensures).1

pub returns-clause-tag_offset_after : goal.returns-clause-tag_offset_after
returns-clause-tag_offset_after c =
    ap (λ (y : Entry). y.tag_offset) (answered c.args.file.now c.args.k _ c.entry_at-found.ensures _ _ c.default.ensures c.unwrap_or-entry.ensures).1
