-- The unit's kind goes by its header.
use Rattle.std.proofs.Common.{sym, ap, ◌∙◌}
use Rattle.bpg_frame_units.specs.Answers.{verdict_of}
use Rattle.bpg_frame_units.proofs.UnitLaws.{kind-slice, kind-sei, other-passes, other-refused, summary-none}
use Rattle.bpg_frame_units.proofs.kind.verdict_on.Goals as goal

pub returns-then-is_slice : goal.returns-then-is_slice
returns-then-is_slice c =
    let s = rw c.of-header.ensures at (sym c.is_slice.ensures ∙ c.if-is_slice.true) in
    λ u. c.slice.ensures ∙ ap verdict_of (sym (kind-slice _ _ _ s))

pub returns-then-is_prefix_sei : goal.returns-then-is_prefix_sei
returns-then-is_prefix_sei c =
    let n = rw c.of-header.ensures at (sym c.is_slice.ensures ∙ c.if-is_slice.false) in
    let s = rw c.of-header.ensures at (sym c.is_prefix_sei.ensures ∙ c.if-is_prefix_sei.true) in
    λ u. c.prefix_sei.ensures u.temporal ∙ ap verdict_of (sym (kind-sei _ _ _ n s))

pub returns-then-is_allowed : goal.returns-then-is_allowed
returns-then-is_allowed c =
    let n = rw c.of-header.ensures at (sym c.is_slice.ensures ∙ c.if-is_slice.false) in
    let m = rw c.of-header.ensures at (sym c.is_prefix_sei.ensures ∙ c.if-is_prefix_sei.false) in
    let s = rw c.of-header.ensures at (sym c.is_allowed.ensures ∙ c.if-is_allowed.true) in
    let d = c.default.ensures in
    λ u. other-passes _ _ _ n m s _ d.0 (summary-none _ d.1.0 d.1.1)

pub returns-else-is_allowed : goal.returns-else-is_allowed
returns-else-is_allowed c =
    let n = rw c.of-header.ensures at (sym c.is_slice.ensures ∙ c.if-is_slice.false) in
    let m = rw c.of-header.ensures at (sym c.is_prefix_sei.ensures ∙ c.if-is_prefix_sei.false) in
    let s = rw c.of-header.ensures at (sym c.is_allowed.ensures ∙ c.if-is_allowed.false) in
    λ u. other-refused _ _ _ n m s
