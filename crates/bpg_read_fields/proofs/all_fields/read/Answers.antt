-- `all_fields::read` meets its contract: the values in the table's order, as a header.
use Rattle.std.proofs.Common.{Some, ap, ◌∙◌}
use Rattle.bpg_format.specs.declared.record.Header.{Header}
use Rattle.bpg_read_fields.proofs.TableLaws.{values-missing, values-found}
use Rattle.bpg_read_fields.proofs.all_fields.read.Goals as goal

pub returns-in_err-values : goal.returns-in_err-values
returns-in_err-values c = c.from_residual.ensures ∙ values-missing _ _ _ c.read.ensures c.in_err-values.was

pub returns : goal.returns
returns c =
    ap (λ (h : Header). Some (record { value = h; next = c.in_ok-values.values.next })) c.header_of.ensures
    ∙ values-found _ _ _ c.read.ensures c.in_ok-values.values c.in_ok-values.was
