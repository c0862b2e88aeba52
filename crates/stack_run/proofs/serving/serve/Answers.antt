use Rattle.stack_run.proofs.StopLemmas.{ran-reportable}
use Rattle.stack_run.proofs.serving.serve.Goals as goal

pub write_reports-requires-clause-runs : goal.write_reports-requires-clause-runs
write_reports-requires-clause-runs g c = rw c.as_slice.ensures.value (ran-reportable c.args.plans.now c.in-Ok.runs.items _ _ c.in-Ok.ensures.ran)
