use Rattle.std.proofs.Common.{◌≡◌, length, ap, ◌∙◌, arith}
use Rattle.bpg_format.specs.Limits.{max_entries}
use Rattle.bpg_format.specs.Records.{content_of, record_animation}
use Rattle.bpg_format.specs.Write.{consistent, same_animation}
use Rattle.bpg_format.proofs.Typed.{entries-count, headers-count}
use Rattle.bpg_write_check.proofs.ConsistentLaws.{header_at, none-used}
use Rattle.bpg_write_check.proofs.consistent.all.Goals as goal

pub returns : goal.returns
unfolding consistent content_of
returns c =
    let r = c.args.«record».now in
    let whole : length r.entries ≡ max_entries = search entries-count in
    let two : length r.headers ≡ 2 = search headers-count in
    λ source.
    rw (
      none-used source r.entries r.entry_count whole,
      c.has_control.ensures source,
      c.same_loop.ensures ∙ ap (same_animation (record_animation r)) c.none-none.ensures,
      c.has_alpha.ensures,
      c.header_zero.ensures,
      c.absent_zero.ensures,
      c.absent_zero-2.ensures,
      header_at _ r.headers 0 two (omega arith),
      header_at _ r.headers 1 two (omega arith),
    )
