-- By what `frames` and `read` promise: a refusal, and what is played.
use Rattle.std.proofs.Common.{◌∙◌}
use Rattle.loop_player_file.proofs.Laws.{room-counted, part-counted, refused-answer, played-answer}
use Rattle.loop_player_file.proofs.time.frame_at_time.Goals as goal

pub returns-then-frames-ne0 : goal.returns-then-frames-ne0
returns-then-frames-ne0 c =
    let e = c.frames-frames.ensures in
    c.refusal.ensures ∙ refused-answer c.args.file.now _ _ e.value e.durations_after c.args.ms c.if-frames-ne0.true

pub slice_bounds-durations-end : goal.slice_bounds-durations-end
slice_bounds-durations-end c = room-counted c.args.file.now _ _ c.frames-frames.ensures.value c.frames-frames.ensures.durations_after

pub slice_bounds-played-end : goal.slice_bounds-played-end
slice_bounds-played-end c = part-counted c.args.file.now _ _ c.frames-frames.ensures.value c.frames-frames.ensures.durations_after

pub returns : goal.returns
returns c =
    let e = c.frames-frames.ensures in
    c.played.ensures ∙ played-answer c.args.file.now _ _ e.value e.durations_after c.args.ms c.if-frames-ne0.false _ c.read-reading.ensures.value
