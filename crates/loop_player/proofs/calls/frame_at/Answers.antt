-- A loop that cannot be played is refused.
use Rattle.loop_player.proofs.Laws.{refused-answer}
use Rattle.loop_player.proofs.calls.frame_at.Goals as goal

pub returns-in-None : goal.returns-in-None
returns-in-None c = refused-answer _ _ _ _ _ c.in-None.ensures
