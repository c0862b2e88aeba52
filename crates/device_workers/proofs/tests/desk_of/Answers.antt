use Rattle.device_workers.proofs.FreshLemmas.{opens-none}
use Rattle.device_workers.proofs.tests.desk_of.Goals as goal

pub make-requires-clause-opening : goal.make-requires-clause-opening
make-requires-clause-opening c = rw c.in_ok-disk_of.ensures.entries opens-none
