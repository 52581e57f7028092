use Rattle.bpg_cursor.specs.Cursors.{yielded}
use Rattle.bpg_cursor.proofs.StepLaws.{step-shortens, some-goes, none-rests}
use Rattle.bpg_cursor.proofs.cursor.CursorIterator.next.Goals as goal

pub returns-clause-goes : goal.returns-clause-goes
returns-clause-goes c =
    let cursor = c.args.self.now in
    rw c.step_at-step.ensures
    (record {
      on = λ _. step-shortens cursor.region.now cursor.next.0;
      keeps = some-goes (yielded cursor);
      rests = λ _. none-rests (yielded cursor);
    })
