use Rattle.shared_disk.proofs.tests.bench.disk_of.Goals as goal

pub make-requires-clause-size : goal.make-requires-clause-size
make-requires-clause-size c = (512, c.in_ok-media.ensures.size)
