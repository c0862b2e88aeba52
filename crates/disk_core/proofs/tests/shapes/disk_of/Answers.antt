use Rattle.disk_core.proofs.tests.shapes.disk_of.Goals as goal

pub make-drive-requires-clause-size : goal.make-drive-requires-clause-size
make-drive-requires-clause-size c = (512, c.in_ok-media.ensures.size)
