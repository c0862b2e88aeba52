use Rattle.std.proofs.Common.{◌-◌}
use Rattle.history.specs.Room.{owed_entries}
use Rattle.shared_disk.specs.Desk.{Keeps}
use Rattle.device_workers.proofs.Taking.{CollectsBack}
use Rattle.device_workers.proofs.plain_run.take_line.Given as goal

abbrev pub invariant-loop : goal.invariant-loop
invariant-loop g l = record {
  taking : CollectsBack l.initial.desk (l.client - 1) l.desk;
  keeps : Keeps l.desk;
}

abbrev pub decreases-loop : goal.decreases-loop
decreases-loop g l = owed_entries l.desk.disk.setup l.desk.disk.entries
