use Rattle.std.proofs.Common.{ap, sym}
use Rattle.stack_run.specs.Chains.{fault_of}
use Rattle.stack_run.proofs.taking.refuse_medium.Goals as goal

pub returns-in-Ok-clause-puts : goal.returns-in-Ok-clause-puts
returns-in-Ok-clause-puts g c = record { result = c.put_image.result; puts = c.put_image.ensures.puts; told = sym (ap fault_of c.in-Ok.is) }

pub returns-in-Err-clause-puts : goal.returns-in-Err-clause-puts
returns-in-Err-clause-puts g c = record { result = c.put_image.result; puts = c.put_image.ensures.puts; told = sym (ap fault_of c.in-Err.is) }
