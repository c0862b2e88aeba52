use Rattle.std.proofs.Common.{refl, arith}
use Rattle.block_gate.specs.Gates.{idle_gates}
use Rattle.disk_io2.proofs.tests.disk_of.Goals as goal

pub returns-in-Ok : goal.returns-in-Ok
unfolding idle_gates
returns-in-Ok c = record { idle = rw (c.in-Ok.ensures.gates) (record { held = refl; gone = refl; free = omega arith }) }
