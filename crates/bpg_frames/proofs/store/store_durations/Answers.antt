-- A turn: the duration is stored where a frame starts; then all are stored, or more units follow.
use Rattle.std.proofs.Common.{arith}
use Rattle.bpg_frames.proofs.StoreLaws.{store-span, store-header, store-room, store-done, store_code, store-well, store-more}
use Rattle.bpg_frames.proofs.store.store_durations.Goals as goal

pub put-found-requires : goal.put-found-requires
put-found-requires c = store-room c.units.invariant c.requires _ c.starts_frame-starts.ensures

pub returns-then-all_stored : goal.returns-then-all_stored
returns-then-all_stored c =
    store-done c.units.invariant c.requires _ c.starts_frame-starts.ensures _ c.put-found.ensures.value _ c.put-found.ensures.durations_after
    (omega (arith, c.if-all_stored.true))

pub slice_bounds-verdict_on-end : goal.slice_bounds-verdict_on-end
slice_bounds-verdict_on-end c = (store-span c.units.invariant c.requires _ c.cut_at-cut.ensures).1

pub unwrap-verdict-requires : goal.unwrap-verdict-requires
unwrap-verdict-requires c =
    store-well c.units.invariant c.requires _ c.starts_frame-starts.ensures _ c.put-found.ensures.value _ c.put-found.ensures.durations_after
    (omega (arith, c.if-all_stored.false)) _ c.cut_at-cut.ensures _
    (c.verdict_on.ensures (store-header c.units.invariant c.requires _ c.cut_at-cut.ensures))

pub units-smaller : goal.units-smaller
units-smaller c =
    omega (
      arith,
      c.requires.small,
      store-span c.units.invariant c.requires _ c.cut_at-cut.ensures,
      store_code c.units.invariant c.requires _ c.starts_frame-starts.ensures _ c.put-found.ensures.value _ c.put-found.ensures.durations_after
          (omega (arith, c.if-all_stored.false)) _ c.cut_at-cut.ensures,
    )

pub units-preserved : goal.units-preserved
units-preserved c =
    store-more c.units.invariant c.requires _ c.starts_frame-starts.ensures _ c.put-found.ensures.value _ c.put-found.ensures.durations_after
    (omega (arith, c.if-all_stored.false)) _ c.cut_at-cut.ensures _
    (c.verdict_on.ensures (store-header c.units.invariant c.requires _ c.cut_at-cut.ensures)) _ c.unwrap-verdict.ensures _ c.wait_after-wait.ensures
