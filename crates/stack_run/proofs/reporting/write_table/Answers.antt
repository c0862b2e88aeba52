use Rattle.stack_run.proofs.ReportLoops.{appends-nothing}
use Rattle.stack_run.proofs.reporting.write_table.Goals as goal

pub returns-in-None-clause-text : goal.returns-in-None-clause-text
returns-in-None-clause-text g c = rw c.in-None.is (appends-nothing (g.O.Sink.outlet c.args.out.now).wrote)
