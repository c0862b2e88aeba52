use Rattle.history.specs.Room.{owed_entries}
use Rattle.disk_core.specs.Turns.{KeepsGates}
use Rattle.disk_io2.specs.Blocking.{Serves}
use Rattle.disk_io2.proofs.blocking.serve.Given as goal

abbrev pub invariant-loop-disk : goal.invariant-loop-disk
invariant-loop-disk g l = record {
  gates : KeepsGates l.initial.disk l.disk;
  serves : Serves l.initial.disk l.number l.disk;
}

abbrev pub decreases-loop-disk : goal.decreases-loop-disk
decreases-loop-disk g l = owed_entries l.disk.setup l.disk.entries
