use Rattle.std.proofs.Common.{◌≡◌, drop}
use Rattle.stack_run.specs.Said.{first_part}
use Rattle.stack_run.proofs.reading.first_part.Given as goal

abbrev pub invariant-loop-disk : goal.invariant-loop-disk
invariant-loop-disk l = first_part l.disks ≡ first_part (drop l.disk-index l.disks)
