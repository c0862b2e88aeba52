use Rattle.std.proofs.Common.{inl, ap, Err}
use Rattle.stack_run.proofs.probe_run.run_probe.Goals as goal

pub returns-clause-memory : goal.returns-clause-memory
returns-clause-memory g c is = inl (record { leaves = c.in-Err-Memory.ensures.memory (ap Err c.in-Err-Memory.field-0-is); line = c.refuse-in-Err-Memory.ensures.line })
