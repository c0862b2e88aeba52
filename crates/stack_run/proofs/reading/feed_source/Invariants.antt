use Rattle.std.proofs.Common.{◌-◌}
use Rattle.stack_run.specs.Reading.{most_read_bytes}
use Rattle.stack_run.proofs.Read.{SoFed}
use Rattle.stack_run.proofs.reading.feed_source.Given as goal

abbrev pub invariant-pieces : goal.invariant-pieces
invariant-pieces g l = SoFed (g.R.Source.left l.initial.source) (g.R.Source.left l.source) l.reader l.count (g.R.Source.faults l.initial.source) (g.R.Source.faults l.source)

abbrev pub decreases-pieces : goal.decreases-pieces
decreases-pieces g l = most_read_bytes - l.count
