use Rattle.std.proofs.Common.{refl, arith}
use Rattle.block_gate.specs.Gates.{idle_gates}
use Rattle.device_workers.proofs.tests.disk_of.Goals as goal

pub make-drive-requires-clause-size : goal.make-drive-requires-clause-size
make-drive-requires-clause-size c = (512, c.in_ok-media_of.ensures.size)

pub returns-in-Ok-clause-idle : goal.returns-in-Ok-clause-idle
unfolding idle_gates
returns-in-Ok-clause-idle c = rw (c.in-Ok.ensures.gates) (record { held = refl; gone = refl; free = omega arith })
