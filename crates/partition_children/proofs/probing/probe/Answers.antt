use Rattle.partition_children.proofs.Endings.{broke-off, stopped}
use Rattle.partition_children.proofs.probing.probe.Goals as goal

pub returns-in-Err-Device-clause-ends : goal.returns-in-Err-Device-clause-ends
returns-in-Err-Device-clause-ends g c = broke-off c.args.disk.now c.table_on.new.disk c.in-Some.target c.in-Some.ensures.some c.in-Err-Device.field-0 c.in-Err-Device.field-0-is c.in-Err-Device.ensures.ends

pub returns-in-Err-Memory-clause-ends : goal.returns-in-Err-Memory-clause-ends
returns-in-Err-Memory-clause-ends g c = stopped c.args.disk.now c.table_on.new.disk c.in-Some.target c.in-Some.ensures.some c.in-Err-Memory.field-0 c.in-Err-Memory.field-0-is c.in-Err-Memory.ensures.ends
