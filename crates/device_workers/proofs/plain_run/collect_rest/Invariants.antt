use Rattle.history.specs.Room.{owed_entries}
use Rattle.device_workers.proofs.Ending.{HasCollected}
use Rattle.device_workers.proofs.plain_run.collect_rest.Given as goal

abbrev pub invariant-loop : goal.invariant-loop
invariant-loop g l = HasCollected l.initial.desk l.desk

abbrev pub decreases-loop : goal.decreases-loop
decreases-loop g l = owed_entries l.desk.disk.setup l.desk.disk.entries
