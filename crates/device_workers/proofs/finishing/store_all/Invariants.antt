use Rattle.history.specs.Room.{owed_entries}
use Rattle.shared_disk.specs.Desk.{Keeps}
use Rattle.device_workers.specs.Finishing.{KeepsScriptAndSetup}
use Rattle.device_workers.proofs.finishing.store_all.Given as goal

abbrev pub invariant-loop-ticket : goal.invariant-loop-ticket
invariant-loop-ticket g l = KeepsScriptAndSetup l.initial.desk l.desk × Keeps l.desk

abbrev pub decreases-loop-ticket : goal.decreases-loop-ticket
decreases-loop-ticket g l = owed_entries l.desk.disk.setup l.desk.disk.entries
