use Rattle.std.proofs.Common.{◌≡◌}
use Rattle.stack_run.proofs.ReportLoops.{Writes}
use Rattle.stack_run.proofs.reporting.write_reports.Given as goal

abbrev pub invariant-loop-place : goal.invariant-loop-place
invariant-loop-place g l = record {
  so_far : Writes l.plans l.runs l.place (g.O.Sink.outlet l.initial.out).wrote (g.O.Sink.outlet l.out).wrote;
  quiet : (g.O.Sink.outlet l.out).faults ≡ (g.O.Sink.outlet l.initial.out).faults;
}
