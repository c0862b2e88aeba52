use Rattle.shared_disk.proofs.OpeningLemmas.{opening-none}
use Rattle.shared_disk.proofs.tests.bench.desk_of.Goals as goal

pub make-requires-clause-opening : goal.make-requires-clause-opening
make-requires-clause-opening c = opening-none c.in_ok-disk_of.field-0.entries c.in_ok-disk_of.ensures
