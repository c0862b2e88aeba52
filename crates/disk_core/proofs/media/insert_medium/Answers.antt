use Rattle.disk_core.proofs.Inserted.{insert-ok, insert-err, insert-fits}
use Rattle.disk_core.proofs.media.insert_medium.Goals as goal

pub returns-in-Ok : goal.returns-in-Ok
returns-in-Ok g c = insert-ok _ _ _ _ _ _ _ _ c.requires c.in-Ok.ensures.answer c.in-Ok.ensures.ok c.enter.ensures

pub returns-in-Err : goal.returns-in-Err
returns-in-Err g c = insert-err _ _ _ _ _ _ _ c.requires c.in-Err.ensures.answer c.in-Err.ensures.err

pub enter-requires-clause-place : goal.enter-requires-clause-place
enter-requires-clause-place g c = (insert-fits _ _ _ _ c.args.tag _ c.requires c.in-Ok.ensures.answer).0

pub enter-requires-clause-owed : goal.enter-requires-clause-owed
enter-requires-clause-owed g c = (insert-fits _ _ _ _ c.args.tag _ c.requires c.in-Ok.ensures.answer).1
