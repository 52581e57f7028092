use Rattle.std.proofs.Common.{arith, ap, ◌∙◌}
use Rattle.bpg_codec.proofs.Tokens.{all-bytes}
use Rattle.bpg_format.specs.declared.record.Record.{Record}
use Rattle.bpg_format.specs.Write.{write_file, write_buffer}
use Rattle.bpg_canonical.proofs.FileLaws.{refused, canonicalized}
use Rattle.bpg_canonical.proofs.file.canonicalize.Goals as goal

pub returns-then-reading-ne0 : goal.returns-then-reading-ne0
returns-then-reading-ne0 c =
    let a = refused c.args.file.now c.read-reading.result c.read-reading.ensures.value c.args.out.now (omega arith) in
    record { value = c.refused.ensures ∙ a.0; out_after = a.1 }

pub returns : goal.returns
returns c =
    let file = c.args.file.now in
    let out = c.args.out.now in
    let a = canonicalized file c.read-reading.result c.read-reading.ensures.value out (all-bytes file (λ i. omega (arith, c.type_inv.file i))) (omega arith) _ _
    (c.write.ensures.value ∙ ap (λ (x : Record). write_file x file out) c.canonical-canonical.ensures)
    (c.write.ensures.out_after ∙ ap (λ (x : Record). write_buffer x file out) c.canonical-canonical.ensures) in
    record { value = a.0; out_after = a.1 }
